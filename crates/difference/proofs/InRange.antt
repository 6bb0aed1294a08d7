-- The three lists of a difference name points and nets of the table.
use Rattle.std.proofs.Common.{◌≡◌, ℕ, ◌<◌, ◌^◌, true, not, List, filter, length, get_or, sym, ◌∙◌, ap, subst, arith, ltb, ◌&&◌, ◌==◌}
use Rattle.partition.specs.Classes.{points_below, has, class_at}
use Rattle.partition.specs.NetTable.{NetTable, IsNetTable, head_of, judged_points, net_count}
use Rattle.partition.specs.NetTable.{numbered_nets}
use Rattle.difference.specs.Difference.{home_of, meeting, nets_at_home, anchor_of, anchors, piece_at, has_piece, pieces_of_net, pieces_of, is_miswire, short_at, shorts_of, difference_of}
use Rattle.difference.specs.Measured.{IsMeasured, net_of}
use Rattle.difference.specs.Labelling.{IsInRange, PieceIsOf, ShortIsOf}
use Rattle.difference.specs.declared.wiring.Piece.{Piece}
use Rattle.difference.specs.declared.wiring.Short.{Short}
use Rattle.partition.proofs.classes.ClassLaws.{points_below-AllBelow}
use Rattle.partition.proofs.Members.{In, In-filter_cases, In-filter_map_cases, In-flat_map_cases, In-has, In-map_cases}
use Rattle.partition.proofs.tables.NetLaws.{judged-below}
use Rattle.difference.proofs.RebuildLaw.{some_when}
use Rattle.difference.proofs.PieceOrder.{net_point, numbered, numbered_is}
use Rattle.difference.proofs.MeasuredLemmas.{All-from_In}
use Rattle.partition.proofs.tables.NetClasses.{head_judged}

module _ (t : NetTable) (m : List ℕ) (ok : IsNetTable t) (is : IsMeasured t m) (few : t.points < 2 ^ 16) where
  -- a numbered net is a net of the table
  net_number : (n : ℕ × List ℕ) → In n (numbered_nets t) → (i : ℕ) × (i < net_count t) × (numbered t i ≡ n)
  net_number n j =
      let one = In-map_cases (numbered t) n (points_below (net_count t)) (subst (λ (xs : List (ℕ × List ℕ)). In n xs) (numbered_is t) j) in
      (one.0, points_below-AllBelow (net_count t) one.0 (In-has one.0 (points_below (net_count t)) one.1), one.2)

  piece_in_range : (x : Piece) → In x (pieces_of t m) → PieceIsOf t.points x
  piece_in_range x j =
      let one = In-flat_map_cases (pieces_of_net t m) x (numbered_nets t) j in
      let net = net_number one.0 one.1 in
      let two = In-map_cases (piece_at m one.0) x (filter (has_piece m one.0) (anchors t m)) one.2 in
      let three = In-filter_cases (has_piece m one.0) two.0 (anchors t m) two.1 in
      let four = In-filter_cases (λ p. anchor_of t m (class_at m p) == p) two.0 (judged_points t) three.0 in
      subst (PieceIsOf t.points) two.2 (record {
        class = judged-below t two.0 (In-has two.0 (judged_points t) four.0);
        points = All-from_In (λ p. p < t.points) (meeting m (one.0).1 (class_at m two.0)) (λ p k.
            let here = In-filter_cases (λ q. class_at m q == class_at m two.0) p (one.0).1 k in
            let in_net : has (net_of t net.0) p ≡ true = In-has p (net_of t net.0) (subst (λ (n : ℕ × List ℕ). In p n.1) (sym net.2) here.0) in
            judged-below t p (net_point t m ok is few net.0 p net.1 in_net).0);
      })

  short_in_range : (x : Short) → In x (shorts_of t m) → ShortIsOf t.points (net_count t) x
  short_in_range x j =
      let one = In-filter_map_cases (short_at t m) x (numbered_nets t) j in
      let n = one.0 in
      let net = net_number n one.1 in
      let homed = nets_at_home t m (home_of m n.1) in
      let made = some_when (get_or homed 0 n.0 == n.0 && ltb 1 (length homed)) (record { class = head_of n.1; nets = homed }) x one.2 in
      subst (ShortIsOf t.points (net_count t)) made.1 (record {
        class = subst (λ (k : ℕ × List ℕ). head_of k.1 < t.points) net.2 (judged-below t (head_of (net_of t net.0)) (head_judged t ok net.0 net.1));
        nets = All-from_In (λ i. i < net_count t) homed (λ i k.
            let two = In-map_cases (λ (z : ℕ × List ℕ). z.0) i (filter (λ (z : ℕ × List ℕ). home_of m z.1 == home_of m n.1) (numbered_nets t)) k in
            let three = In-filter_cases (λ (z : ℕ × List ℕ). home_of m z.1 == home_of m n.1) two.0 (numbered_nets t) two.1 in
            let at = net_number two.0 three.0 in
            let number : at.0 ≡ i = ap (λ (z : ℕ × List ℕ). z.0) at.2 ∙ two.2 in
            let below = at.1 in
            omega arith);
      })

  pub difference_in_range : IsInRange t (difference_of t m)
  difference_in_range = record {
    opens = All-from_In (PieceIsOf t.points) (difference_of t m).opens (λ x j. piece_in_range x (In-filter_cases (λ p. not (is_miswire t m p)) x (pieces_of t m) j).0);
    shorts = All-from_In (ShortIsOf t.points (net_count t)) (shorts_of t m) (λ x j. short_in_range x j);
    miswires = All-from_In (PieceIsOf t.points) (difference_of t m).miswires (λ x j. piece_in_range x (In-filter_cases (is_miswire t m) x (pieces_of t m) j).0);
  }
