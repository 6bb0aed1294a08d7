-- The named nets of a table, one after the other.
use Rattle.std.proofs.Common.{◌≡◌, ◌+◌, ◌<◌, ◌≤◌, ◌++◌, ◌∷◌, [], ℕ, List, take, drop, length, get_or, sym, ◌∙◌, ap, subst, arith, append_assoc}
use Rattle.std.specs.Prelude.{zip, flat_map}
use Rattle.std.proofs.lemmas.List.{take-append-drop, take_more, take_all, get_or_append_left}
use Rattle.std.proofs.lemmas.Slice.Zip.{get_or-zip, length-zip}
use Rattle.std.proofs.lemmas.Grind.{flat_map-append}
use Rattle.std.proofs.lemmas.List.{append-nil}
use Rattle.partition.specs.NetTable.{NetTable, IsNetTable, all_nets, judged_points}
use Rattle.partition.proofs.Members.{In-has}
use Rattle.partition.proofs.tables.NetLaws.{Contains-In, judged-below}
use Rattle.rig.specs.Calls.{IsGroup}
use Rattle.continuity_check.specs.Compared.{Compared, compared_in, compared_of}

pub named_is : (t : NetTable) (i : ℕ) → i < length t.named → get_or (all_nets t) i [] ≡ get_or t.named i []
named_is t i inside = get_or_append_left t.named _ [] i inside

-- a named net is a group of points
pub named_group : (t : NetTable) (i : ℕ) → IsNetTable t → i < length t.named → IsGroup t.points (get_or t.named i [])
named_group t i ok inside = record {
  some = ok.nonempty i [] inside;
  ascending = ok.ascending i [] inside;
  in_range = λ k d lt. judged-below t _ (In-has _ (judged_points t) (Contains-In _ (judged_points t) (ok.in_range i [] inside k d lt)));
}

pub net_group : (t : NetTable) (n i : ℕ) (net : List ℕ) → IsNetTable t → t.points ≡ n → i < length t.named → net ≡ get_or (all_nets t) i [] → IsGroup n net
net_group t n i net ok points inside is =
    subst (λ (m : ℕ). IsGroup m net) points (subst (IsGroup t.points) (sym (is ∙ named_is t i inside)) (named_group t i ok inside))

-- one more net
pub compared_of-more : (names nets : List (List ℕ)) (i : ℕ) (name net : List ℕ) → length names ≡ length nets → i < length nets → name ≡ get_or names i name → net ≡ get_or nets i []
    → compared_of (take i (zip names nets)) ++ compared_in name net ≡ compared_of (take (i + 1) (zip names nets))
compared_of-more names nets i name net same inside is_name is_net =
    let pair = get_or-zip names nets i (name, []) (omega arith) inside in
    let all = length-zip names nets in
    let here : get_or (zip names nets) i (name, []) ≡ (name, net) =
    pair ∙ ap (λ (x : List ℕ). (x, get_or nets i [])) (sym is_name) ∙ ap (λ (x : List ℕ). (name, x)) (sym is_net) in
    let f : List ℕ × List ℕ → List Compared = λ (n : List ℕ × List ℕ). compared_in n.0 n.1 in
    sym (ap (flat_map f) (take_more (zip names nets) i (name, []) (omega arith))
    ∙ flat_map-append f (take i (zip names nets)) (get_or (zip names nets) i (name, []) ∷ [])
    ∙ ap (λ (n : List ℕ × List ℕ). flat_map f (take i (zip names nets)) ++ flat_map f (n ∷ [])) here
    ∙ ap (λ (l : List Compared). flat_map f (take i (zip names nets)) ++ l) (append-nil (compared_in name net)))

-- the nets before a net, that net, and the others
pub compared_of-split : (names nets : List (List ℕ)) (i : ℕ) (name net : List ℕ) → length names ≡ length nets → i < length nets → name ≡ get_or names i name → net ≡ get_or nets i []
    → compared_of (take i (zip names nets)) ++ (compared_in name net ++ compared_of (drop (i + 1) (zip names nets))) ≡ compared_of (zip names nets)
compared_of-split names nets i name net same inside is_name is_net =
    let z = zip names nets in
    let others = compared_of (drop (i + 1) z) in
    let f : List ℕ × List ℕ → List Compared = λ (n : List ℕ × List ℕ). compared_in n.0 n.1 in
    sym (append_assoc (compared_of (take i z)) (compared_in name net) others)
    ∙ ap (λ (l : List Compared). l ++ others) (compared_of-more names nets i name net same inside is_name is_net)
    ∙ sym (flat_map-append f (take (i + 1) z) (drop (i + 1) z))
    ∙ ap compared_of (take-append-drop (i + 1) z)

pub compared_of-all : (names nets : List (List ℕ)) (i : ℕ) → length nets ≤ i → compared_of (take i (zip names nets)) ≡ compared_of (zip names nets)
compared_of-all names nets i end = let all = length-zip names nets in ap compared_of (take_all i (zip names nets) (omega arith))
