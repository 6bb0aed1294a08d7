-- The three lists are empty exactly where the measured partition is the programmed one.
use Rattle.std.proofs.Common.{◌≡◌, ◌≢◌, ℕ, ◌+◌, ◌≤◌, Bool, true, false, cond, not, ◌&&◌, ◌==◌, List, [], ◌∷◌, map, length, ltb, refl, sym, ◌∙◌, ap, subst, inl, inr, arith, filter, slice_index_or}
use Rattle.std.specs.List.{enumerate_from}
use Rattle.std.proofs.lemmas.Bool.{eqb-true, ltb-true}
use Rattle.std.proofs.lemmas.Bool.Decides.{eqb_tells}
use Rattle.partition.specs.Classes.{has, class_at, IsPartition}
use Rattle.partition.specs.NetTable.{NetTable, all_nets, head_of, net_at, judged_points, programmed_of, IsNetTable}
use Rattle.partition.specs.NetTable.{numbered_nets}
use Rattle.difference.specs.Difference.{home_of, meets, nets_at_home, anchors, pieces_of, pieces_of_net, piece_at, has_piece, is_miswire, opens_of, miswires_of, shorts_of, short_at, difference_of}
use Rattle.partition.specs.NetTable.{head_at}
use Rattle.difference.specs.Rebuild.{rebuilt}
use Rattle.difference.specs.declared.wiring.Piece.{Piece}
use Rattle.difference.specs.declared.wiring.Short.{Short}
use Rattle.partition.proofs.Members.{In, In-map_cases, In-filter_cases, In-flat_map_cases, In-filter_map_cases, In-has, In-enumerate}
use Rattle.partition.proofs.classes.ClassLaws.{classes_by-agree, eqb-agree}
use Rattle.partition.proofs.classes.Labels.{and_left, and_right, not_true, eqb_false}
use Rattle.partition.proofs.tables.NetLaws.{NetFacts}
use Rattle.difference.proofs.RebuildLaw.{some_when, rebuilt-difference}
use Rattle.partition.proofs.tables.NetLaws.{net_facts}
use Rattle.partition.proofs.classes.Programmed.{number_at, programmed-same, same-programmed}

-- a list without a member is empty
pub no_member : {X : Type 0} (xs : List X) → ((x : X) → In x xs → ⊥) → xs ≡ []
no_member [] h = refl
no_member (x ∷ xs) h = absurd (h x (inl refl))

-- where all that pass have one number, one passes at most
one_passes : (t : List ℕ → Bool) (s v : ℕ) (xs : List (List ℕ)) →
    ((z : ℕ × List ℕ) → In z (filter (λ (n : ℕ × List ℕ). t n.1) (enumerate_from s xs)) → z.0 ≡ v) →
    length (map (λ (n : ℕ × List ℕ). n.0) (filter (λ (n : ℕ × List ℕ). t n.1) (enumerate_from s xs))) ≤ 1
one_passes t s v [] h = omega arith
one_passes t s v (x ∷ xs) h = go (t x) refl h (λ k. one_passes t (s + 1) v xs k)
  where
    rest : List (ℕ × List ℕ)
    rest = filter (λ (n : ℕ × List ℕ). t n.1) (enumerate_from (s + 1) xs)

    go : (b : Bool) → t x ≡ b →
        ((z : ℕ × List ℕ) → In z (cond (t x) ((s, x) ∷ filter (λ (n : ℕ × List ℕ). t n.1) (enumerate_from (s + 1) xs)) (filter (λ (n : ℕ × List ℕ). t n.1) (enumerate_from (s + 1) xs))) → z.0 ≡ v) →
        (((z : ℕ × List ℕ) → In z (filter (λ (n : ℕ × List ℕ). t n.1) (enumerate_from (s + 1) xs)) → z.0 ≡ v) →
        length (map (λ (n : ℕ × List ℕ). n.0) (filter (λ (n : ℕ × List ℕ). t n.1) (enumerate_from (s + 1) xs))) ≤ 1) →
        length (map (λ (n : ℕ × List ℕ). n.0) (cond (t x) ((s, x) ∷ filter (λ (n : ℕ × List ℕ). t n.1) (enumerate_from (s + 1) xs)) (filter (λ (n : ℕ × List ℕ). t n.1) (enumerate_from (s + 1) xs)))) ≤ 1
    go false e k ih = rw e (ih (λ z i. k z (rw e i)))
    go true e k ih =
        let first : s ≡ v = k (s, x) (rw e (inl refl)) in
        let none : filter (λ (n : ℕ × List ℕ). t n.1) (enumerate_from (s + 1) xs) ≡ [] =
        no_member _ (λ z i.
        let number : z.0 ≡ v = k z (rw e (inr i)) in
        let f = In-filter_cases (λ (n : ℕ × List ℕ). t n.1) z (enumerate_from (s + 1) xs) i in
        let place = In-enumerate (s + 1) z.0 z.1 xs f.0 in
        let at = place.1 in
        omega arith) in
        rw (e, none) (omega arith)

module _ (t : NetTable) (ok : IsNetTable t) where
  abbrev js : List ℕ
  js = judged_points t

  facts : NetFacts t
  facts = net_facts t ok

  -- the heads tell the nets apart
  heads_tell : (p q : ℕ) → has js p ≡ true → has js q ≡ true → head_at t p ≡ head_at t q → net_at t p ≡ net_at t q
  heads_tell p q kp kq e =
      let np = facts.numbered_at p kp in
      let nq = facts.numbered_at q kq in
      facts.one_net (net_at t p, slice_index_or (all_nets t) (net_at t p) []) (net_at t q, slice_index_or (all_nets t) (net_at t q) []) (head_at t p) np nq
      (facts.head_in (net_at t p, slice_index_or (all_nets t) (net_at t p) []) np)
      (subst (λ z. has (slice_index_or (all_nets t) (net_at t q) []) z ≡ true) (sym e) (facts.head_in (net_at t q, slice_index_or (all_nets t) (net_at t q) []) nq))

  -- an empty difference describes the programmed partition
  pub rebuilt-nothing : rebuilt t (record { opens = []; shorts = []; miswires = [] }) ≡ programmed_of t
  rebuilt-nothing =
      classes_by-agree js t.points (head_at t) (net_at t) (λ p q kp kq. eqb-agree _ _ _ _
      (λ e. heads_tell q p kq kp e)
      (λ e. ap (λ i. head_of (slice_index_or (all_nets t) i [])) e))

  pub empty-programmed : (m : List ℕ) → IsPartition js t.points m → opens_of t m ≡ [] → shorts_of t m ≡ [] → miswires_of t m ≡ [] → m ≡ programmed_of t
  empty-programmed m is o s w =
      sym (rebuilt-difference t m facts is)
      ∙ (λ i. rebuilt t (record { opens = o i; shorts = s i; miswires = w i }))
      ∙ rebuilt-nothing

  -- in the programmed partition a net's points are at home
  at_home : (n : ℕ × List ℕ) (p : ℕ) → In n (numbered_nets t) → has n.1 p ≡ true → class_at (programmed_of t) p ≡ home_of (programmed_of t) n.1
  at_home n p i h =
      let head = facts.head_in n i in
      programmed-same t ok p (head_of n.1) (facts.judged_in n p i h) (facts.judged_in n (head_of n.1) i head)
      (number_at t ok n p i h ∙ sym (number_at t ok n (head_of n.1) i head))

  pub meets_some : (m xs : List ℕ) (d : ℕ) → meets m xs d ≡ true → (p : ℕ) × In p xs × (class_at m p ≡ d)
  meets_some m [] d h = absurd (let r : false ≡ true = h in cc)
  meets_some m (x ∷ xs) d h =
      elim (eqb_tells (class_at m x) d) [
        | inl e ↦ (x, inl refl, e.1)
        | inr e ↦ let i = meets_some m xs d (rw e.0 at h) in (i.0, inr i.1, i.2)
      ]

  no_piece : (x : Piece) → In x (pieces_of t (programmed_of t)) → ⊥
  no_piece x i =
      let m = programmed_of t in
      let j = In-flat_map_cases (pieces_of_net t m) x (numbered_nets t) i in
      let n = j.0 in
      let k = In-map_cases (piece_at m n) x (filter (has_piece m n) (anchors t m)) j.2 in
      let f = In-filter_cases (has_piece m n) k.0 (anchors t m) k.1 in
      let meet = meets_some m n.1 (class_at m k.0) (and_left _ (not (class_at m k.0 == home_of m n.1)) f.1) in
      let away : class_at m k.0 ≢ home_of m n.1 = eqb_false _ _ (not_true _ (and_right (meets m n.1 (class_at m k.0)) _ f.1)) in
      away (sym meet.2 ∙ at_home n meet.0 j.1 (In-has meet.0 n.1 meet.1))

  no_short : (x : Short) → In x (shorts_of t (programmed_of t)) → ⊥
  no_short x i =
      let m = programmed_of t in
      let j = In-filter_map_cases (short_at t m) x (numbered_nets t) i in
      let n = j.0 in
      let c = home_of m n.1 in
      let homed = nets_at_home t m c in
      let w = some_when (slice_index_or homed 0 n.0 == n.0 && ltb 1 (length homed)) (record { class = head_of n.1; nets = homed }) x j.2 in
      let many = ltb-true 1 (length homed) (and_right (slice_index_or homed 0 n.0 == n.0) _ w.0) in
      let few : length homed ≤ 1 =
      one_passes (λ net. home_of m net == c) 0 n.0 (all_nets t) (λ z k.
      let f = In-filter_cases (λ (y : ℕ × List ℕ). home_of m y.1 == c) z (numbered_nets t) k in
      let same = eqb-true (home_of m z.1) c f.1 in
      let hz = facts.head_in z f.0 in
      let hn = facts.head_in n j.1 in
      sym (number_at t ok z (head_of z.1) f.0 hz)
      ∙ same-programmed t ok (head_of z.1) (head_of n.1) (facts.judged_in z (head_of z.1) f.0 hz) (facts.judged_in n (head_of n.1) j.1 hn) same
      ∙ number_at t ok n (head_of n.1) j.1 hn) in
      omega arith

  programmed-empty : difference_of t (programmed_of t) ≡ record { opens = []; shorts = []; miswires = [] }
  programmed-empty =
      let o : opens_of t (programmed_of t) ≡ [] = no_member _ (λ x i. no_piece x (In-filter_cases (λ z. not (is_miswire t (programmed_of t) z)) x (pieces_of t (programmed_of t)) i).0) in
      let w : miswires_of t (programmed_of t) ≡ [] = no_member _ (λ x i. no_piece x (In-filter_cases (is_miswire t (programmed_of t)) x (pieces_of t (programmed_of t)) i).0) in
      let s : shorts_of t (programmed_of t) ≡ [] = no_member _ no_short in
      λ i. record { opens = o i; shorts = s i; miswires = w i }

  -- the law of the difference, of a table
  pub rebuild-law : (m : List ℕ) → IsPartition js t.points m → rebuilt t (difference_of t m) ≡ m
  rebuild-law m is = rebuilt-difference t m facts is

  pub difference-programmed : (m : List ℕ) → m ≡ programmed_of t → difference_of t m ≡ record { opens = []; shorts = []; miswires = [] }
  difference-programmed m e = ap (difference_of t) e ∙ programmed-empty
