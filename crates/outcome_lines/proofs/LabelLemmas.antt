-- Labels by their numbers.
use Rattle.std.proofs.Common.{◌≡◌, ℕ, ◌+◌, ◌-◌, ◌<◌, ◌≤◌, List, [], ◌∷◌, length, map, get_or, unwrap_or, sym, ◌∙◌, ap, arith, length-append}
use Rattle.std.proofs.lemmas.List.{get_or-append_right, get_or-map, get_or_append_left, get_or_default, length-map}
use Rattle.std.proofs.lemmas.Option.{slice_get_past, unwrap_or-slice_get}
use Rattle.partition.specs.NetTable.{all_nets, head_of, net_count}
use Rattle.wirelist.specs.declared.program.Program.{Program}
use Rattle.outcome_lines.specs.Labels.{label_at, labels_of_nets, point_label, unlabelled, unused_points}

pub label_past : (labels : List (List ℕ)) (i : ℕ) → length labels ≤ i → label_at labels i ≡ unlabelled i
label_past labels i past = ap (λ o. unwrap_or o (unlabelled i)) (slice_get_past labels i past)

pub label_named : (p : Program) (i : ℕ) (name : List ℕ) → i < length p.names → name ≡ get_or p.names i name → label_at (labels_of_nets p) i ≡ name
label_named p i name lt is =
    unwrap_or-slice_get (labels_of_nets p) i (unlabelled i)
    ∙ get_or_append_left p.names (map point_label (unused_points p.nets)) (unlabelled i) i lt
    ∙ get_or_default p.names i (unlabelled i) name lt
    ∙ sym is

-- the other nets are numbered after the named ones
alone_few : (p : Program) → net_count p.nets ≡ length p.nets.named + length (unused_points p.nets)
alone_few p = length-append p.nets.named (map (λ q. q ∷ []) (unused_points p.nets)) ∙ ap (λ (n : ℕ). length p.nets.named + n) (length-map (unused_points p.nets) (λ q. q ∷ []))

pub labels_few : (p : Program) → length p.names ≡ length p.nets.named → length (labels_of_nets p) ≡ net_count p.nets
labels_few p names =
    length-append p.names (map point_label (unused_points p.nets))
    ∙ ap (λ (n : ℕ). length p.names + n) (length-map (unused_points p.nets) point_label)
    ∙ ap (λ (n : ℕ). n + length (unused_points p.nets)) names
    ∙ sym (alone_few p)

-- a net behind the named ones has one point
alone_head : (p : Program) (i : ℕ) → length p.nets.named ≤ i → i < net_count p.nets → head_of (get_or (all_nets p.nets) i []) ≡ get_or (unused_points p.nets) (i - length p.nets.named) 0
alone_head p i past inside =
    let few = alone_few p in
    ap head_of (get_or-append_right p.nets.named (map (λ q. q ∷ []) (unused_points p.nets)) (length p.nets.named) i [] (omega arith) past
    ∙ get_or-map (λ q. q ∷ []) (unused_points p.nets) (i - length p.nets.named) 0 [] (omega arith))

pub label_alone : (p : Program) (i head : ℕ) → length p.names ≡ length p.nets.named → length p.names ≤ i → i < net_count p.nets → head ≡ head_of (get_or (all_nets p.nets) i [])
    → label_at (labels_of_nets p) i ≡ point_label head
label_alone p i head names past inside is =
    let few = alone_few p in
    unwrap_or-slice_get (labels_of_nets p) i (unlabelled i)
    ∙ get_or-append_right p.names (map point_label (unused_points p.nets)) (length p.names) i (unlabelled i) (omega arith) past
    ∙ get_or-map point_label (unused_points p.nets) (i - length p.names) 0 (unlabelled i) (omega arith)
    ∙ ap (λ (n : ℕ). point_label (get_or (unused_points p.nets) (i - n) 0)) names
    ∙ ap point_label (sym (is ∙ alone_head p i (omega arith) inside))

-- the label of an item is its own
pub label_map : (f : ℕ → List ℕ) (xs : List ℕ) (k : ℕ) → k < length xs → label_at (map f xs) k ≡ f (get_or xs k 0)
label_map f xs k lt = unwrap_or-slice_get (map f xs) k (unlabelled k) ∙ get_or-map f xs k 0 (unlabelled k) lt
