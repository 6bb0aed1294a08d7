use Rattle.std.proofs.Common.{◌≡◌, ◌∙◌, ◌+◌, ◌<◌, ◌≤◌, ℕ, List, Ok, length, filter, get_or, sym, ap, subst, arith}
use Rattle.partition.specs.Classes.{class_at, classes_by, judged_in}
use Rattle.partition.specs.Heads.{heads}
use Rattle.partition.specs.NetTable.{judged_points, programmed_of}
use Rattle.partition.proofs.classes.JudgedPartition.{classing-IsPartition}
use Rattle.rig.proofs.Reading.{Reads-none, Reads-no_memory, Reads-refused, Reads-then}
use Rattle.learn.proofs.Learnt.{OnErr-any}
use Rattle.isolate.specs.Pieces.{ArePieces, is_of_net, most_placing}
use Rattle.isolate.proofs.JudgedCounts.{counted-programmed}
use Rattle.isolate.proofs.Splitting.{Splitting-among, Splitting-asks, Splitting-at_least, Splitting-at_most, Splitting-few, Splitting-inside, Splitting-joined, Splitting-new, Splitting-pieces, Splitting-skipped, Splitting-some, Splitting-start, Splitting-stopped, Splitting-within, labels-valid, nets-none, nets-of_rig, nets-within}
use Rattle.isolate.proofs.parting.piece_classes.Goals as goal
use Rattle.isolate.proofs.parting.piece_classes.Goals.{in-Some+in_ok-push-in-Some, in-None+in_ok-push-in-None+in_ok-push-in-None-2}

pub returns-in_err-programmed-clause-reads : goal.returns-in_err-programmed-clause-reads
returns-in_err-programmed-clause-reads g c = Reads-no_memory (Reads-none _) _ c.from_residual.ensures.1

pub returns-in_err-programmed-clause-refused : goal.returns-in_err-programmed-clause-refused
returns-in_err-programmed-clause-refused g c = OnErr-any _ (nets-none c.args.nets.now c.points.ensures.valid (omega (arith, c.points.ensures.points)) _)

pub loop-i-init : goal.loop-i-init
loop-i-init g c = rw (c.new-pieces.ensures, c.new-heads.ensures) (Splitting-start (g.R.Rig.state c.args.seat.now) (programmed_of c.args.nets.now)
    (nets-of_rig c.args.nets.now c.points.ensures.valid (omega (arith, c.points.ensures.points)) (g.R.Rig.state c.args.seat.now) c.requires))

pub returns-in_err-push-clause-refused : goal.returns-in_err-push-clause-refused
returns-in_err-push-clause-refused g c = OnErr-any _ (nets-within c.args.nets.now c.points.ensures.valid (omega (arith, c.points.ensures.points))
    (g.R.Rig.state c.args.seat.now) (g.R.Rig.state c.loop-i.seat) (Splitting-within c.loop-i.invariant (omega arith)))

pub loop-i-preserved-then-not-judges : goal.loop-i-preserved-then-not-judges
loop-i-preserved-then-not-judges g c = Splitting-skipped c.loop-i.invariant
    (omega (arith, c.loop-i-test.true, c.points-i-end.ensures.points, ap length c.in_ok-programmed.ensures))
    (rw c.in_ok-programmed.ensures at (c.judges.ensures.none c.if-not-judges.true)) c.in_ok-push.ensures.ok

pub heads_of_net-requires-clause-heads : goal.heads_of_net-requires-clause-heads
heads_of_net-requires-clause-heads g c = λ k d lt.
    omega (
      arith,
      Splitting-inside c.loop-i.invariant k d (omega (arith, lt, ap length c.as_slice.ensures)),
      ap (λ (l : List ℕ). get_or l k d) c.as_slice.ensures,
      ap length c.in_ok-programmed.ensures,
    )

pub returns-in_err-of_net-clause-refused : goal.returns-in_err-of_net-clause-refused
returns-in_err-of_net-clause-refused g c = OnErr-any _ (nets-within c.args.nets.now c.points.ensures.valid (omega (arith, c.points.ensures.points))
    (g.R.Rig.state c.args.seat.now) (g.R.Rig.state c.loop-i.seat) (Splitting-within c.loop-i.invariant (omega arith)))

pub head_of-requires : goal.head_of-requires
head_of-requires g c =
    let group : c.as_slice-in-loop-i.result.now ≡ filter (is_of_net (programmed_of c.args.nets.now) c.loop-i.i) c.loop-i.heads =
    c.as_slice-in-loop-i.ensures ∙ c.in_ok-of_net.ensures ∙ ap (λ (m : List ℕ). filter
    (is_of_net m c.loop-i.i) c.as_slice.result.now) c.in_ok-programmed.ensures
    ∙ ap (λ (l : List ℕ). filter (is_of_net (programmed_of c.args.nets.now) c.loop-i.i) l) c.as_slice.ensures in
    record {
      groups = λ some. rw group (Splitting-asks c.loop-i.invariant
          (omega (arith, c.loop-i-test.true, c.points-i-end.ensures.points, ap length c.in_ok-programmed.ensures)) (rw group at some));
    }

pub returns-in_err-head-clause-reads : goal.returns-in_err-head-clause-reads
returns-in_err-head-clause-reads g c = Reads-refused c.loop-i.invariant.reads c.in_err-head.ensures.reads _ c.from_residual-in_err-head.ensures.1

pub returns-in_err-head-clause-judged : goal.returns-in_err-head-clause-judged
returns-in_err-head-clause-judged g c =
    let group : c.as_slice-in-loop-i.result.now ≡ filter (is_of_net (programmed_of c.args.nets.now) c.loop-i.i) c.loop-i.heads =
    c.as_slice-in-loop-i.ensures ∙ c.in_ok-of_net.ensures ∙ ap (λ (m : List ℕ). filter
    (is_of_net m c.loop-i.i) c.as_slice.result.now) c.in_ok-programmed.ensures
    ∙ ap (λ (l : List ℕ). filter (is_of_net (programmed_of c.args.nets.now) c.loop-i.i) l) c.as_slice.ensures in
    Splitting-among c.loop-i.invariant (g.R.Rig.state c.head_of.new.seat) (rw c.in_ok-programmed.ensures at (c.judges.ensures.judged c.if-not-judges.false))
    (rw group at c.in_err-head.ensures.points)

pub returns-in_err-head-clause-refused : goal.returns-in_err-head-clause-refused
returns-in_err-head-clause-refused g c =
    let group : c.as_slice-in-loop-i.result.now ≡ filter (is_of_net (programmed_of c.args.nets.now) c.loop-i.i) c.loop-i.heads =
    c.as_slice-in-loop-i.ensures ∙ c.in_ok-of_net.ensures ∙ ap (λ (m : List ℕ). filter
    (is_of_net m c.loop-i.i) c.as_slice.result.now) c.in_ok-programmed.ensures
    ∙ ap (λ (l : List ℕ). filter (is_of_net (programmed_of c.args.nets.now) c.loop-i.i) l) c.as_slice.ensures in
    OnErr-any _ (nets-within c.args.nets.now c.points.ensures.valid (omega (arith, c.points.ensures.points)) (g.R.Rig.state c.args.seat.now)
    (g.R.Rig.state c.head_of.new.seat) (Splitting-stopped c.loop-i.invariant
    (omega (arith, c.loop-i-test.true, c.points-i-end.ensures.points, ap length c.in_ok-programmed.ensures))
    (rw c.in_ok-programmed.ensures at (c.judges.ensures.judged c.if-not-judges.false)) (rw group at c.in_err-head.ensures.at_most)))

pub returns-in_err-push-in-Some-clause-reads : goal.returns-in_err-push-in-Some-clause-reads
returns-in_err-push-in-Some-clause-reads g c = Reads-no_memory
    (Reads-then c.loop-i.invariant.reads c.in_ok-head.ensures.reads) _ c.from_residual-in_err-push-in-Some.ensures.1

pub returns-in_err-push-in-Some-clause-judged : goal.returns-in_err-push-in-Some-clause-judged
returns-in_err-push-in-Some-clause-judged g c =
    let group : c.as_slice-in-loop-i.result.now ≡ filter (is_of_net (programmed_of c.args.nets.now) c.loop-i.i) c.loop-i.heads =
    c.as_slice-in-loop-i.ensures ∙ c.in_ok-of_net.ensures ∙ ap (λ (m : List ℕ). filter
    (is_of_net m c.loop-i.i) c.as_slice.result.now) c.in_ok-programmed.ensures
    ∙ ap (λ (l : List ℕ). filter (is_of_net (programmed_of c.args.nets.now) c.loop-i.i) l) c.as_slice.ensures in
    Splitting-among c.loop-i.invariant (g.R.Rig.state c.head_of.new.seat) (rw c.in_ok-programmed.ensures at (c.judges.ensures.judged c.if-not-judges.false))
    (rw group at c.in_ok-head.ensures.points)

pub returns-in_err-push-in-Some-clause-refused : goal.returns-in_err-push-in-Some-clause-refused
returns-in_err-push-in-Some-clause-refused g c =
    let group : c.as_slice-in-loop-i.result.now ≡ filter (is_of_net (programmed_of c.args.nets.now) c.loop-i.i) c.loop-i.heads =
    c.as_slice-in-loop-i.ensures ∙ c.in_ok-of_net.ensures ∙ ap (λ (m : List ℕ). filter
    (is_of_net m c.loop-i.i) c.as_slice.result.now) c.in_ok-programmed.ensures
    ∙ ap (λ (l : List ℕ). filter (is_of_net (programmed_of c.args.nets.now) c.loop-i.i) l) c.as_slice.ensures in
    OnErr-any _ (nets-within c.args.nets.now c.points.ensures.valid (omega (arith, c.points.ensures.points)) (g.R.Rig.state c.args.seat.now)
    (g.R.Rig.state c.head_of.new.seat) (Splitting-stopped c.loop-i.invariant
    (omega (arith, c.loop-i-test.true, c.points-i-end.ensures.points, ap length c.in_ok-programmed.ensures))
    (rw c.in_ok-programmed.ensures at (c.judges.ensures.judged c.if-not-judges.false)) (rw group at c.in_ok-head.ensures.at_most)))

pub returns-in_err-push-in-None-clause-reads : goal.returns-in_err-push-in-None-clause-reads
returns-in_err-push-in-None-clause-reads g c = Reads-no_memory
    (Reads-then c.loop-i.invariant.reads c.in_ok-head.ensures.reads) _ c.from_residual-in_err-push-in-None.ensures.1

pub returns-in_err-push-in-None-clause-judged : goal.returns-in_err-push-in-None-clause-judged
returns-in_err-push-in-None-clause-judged g c =
    let group : c.as_slice-in-loop-i.result.now ≡ filter (is_of_net (programmed_of c.args.nets.now) c.loop-i.i) c.loop-i.heads =
    c.as_slice-in-loop-i.ensures ∙ c.in_ok-of_net.ensures ∙ ap (λ (m : List ℕ). filter
    (is_of_net m c.loop-i.i) c.as_slice.result.now) c.in_ok-programmed.ensures
    ∙ ap (λ (l : List ℕ). filter (is_of_net (programmed_of c.args.nets.now) c.loop-i.i) l) c.as_slice.ensures in
    Splitting-among c.loop-i.invariant (g.R.Rig.state c.head_of.new.seat) (rw c.in_ok-programmed.ensures at (c.judges.ensures.judged c.if-not-judges.false))
    (rw group at c.in_ok-head.ensures.points)

pub returns-in_err-push-in-None-clause-refused : goal.returns-in_err-push-in-None-clause-refused
returns-in_err-push-in-None-clause-refused g c =
    let group : c.as_slice-in-loop-i.result.now ≡ filter (is_of_net (programmed_of c.args.nets.now) c.loop-i.i) c.loop-i.heads =
    c.as_slice-in-loop-i.ensures ∙ c.in_ok-of_net.ensures ∙ ap (λ (m : List ℕ). filter
    (is_of_net m c.loop-i.i) c.as_slice.result.now) c.in_ok-programmed.ensures
    ∙ ap (λ (l : List ℕ). filter (is_of_net (programmed_of c.args.nets.now) c.loop-i.i) l) c.as_slice.ensures in
    OnErr-any _ (nets-within c.args.nets.now c.points.ensures.valid (omega (arith, c.points.ensures.points)) (g.R.Rig.state c.args.seat.now)
    (g.R.Rig.state c.head_of.new.seat) (Splitting-stopped c.loop-i.invariant
    (omega (arith, c.loop-i-test.true, c.points-i-end.ensures.points, ap length c.in_ok-programmed.ensures))
    (rw c.in_ok-programmed.ensures at (c.judges.ensures.judged c.if-not-judges.false)) (rw group at c.in_ok-head.ensures.at_most)))

pub returns-in_err-push-in-None-2-clause-reads : goal.returns-in_err-push-in-None-2-clause-reads
returns-in_err-push-in-None-2-clause-reads g c = Reads-no_memory
    (Reads-then c.loop-i.invariant.reads c.in_ok-head.ensures.reads) _ c.from_residual-in_err-push-in-None-2.ensures.1

pub returns-in_err-push-in-None-2-clause-judged : goal.returns-in_err-push-in-None-2-clause-judged
returns-in_err-push-in-None-2-clause-judged g c =
    let group : c.as_slice-in-loop-i.result.now ≡ filter (is_of_net (programmed_of c.args.nets.now) c.loop-i.i) c.loop-i.heads =
    c.as_slice-in-loop-i.ensures ∙ c.in_ok-of_net.ensures ∙ ap (λ (m : List ℕ). filter
    (is_of_net m c.loop-i.i) c.as_slice.result.now) c.in_ok-programmed.ensures
    ∙ ap (λ (l : List ℕ). filter (is_of_net (programmed_of c.args.nets.now) c.loop-i.i) l) c.as_slice.ensures in
    Splitting-among c.loop-i.invariant (g.R.Rig.state c.head_of.new.seat) (rw c.in_ok-programmed.ensures at (c.judges.ensures.judged c.if-not-judges.false))
    (rw group at c.in_ok-head.ensures.points)

pub returns-in_err-push-in-None-2-clause-refused : goal.returns-in_err-push-in-None-2-clause-refused
returns-in_err-push-in-None-2-clause-refused g c =
    let group : c.as_slice-in-loop-i.result.now ≡ filter (is_of_net (programmed_of c.args.nets.now) c.loop-i.i) c.loop-i.heads =
    c.as_slice-in-loop-i.ensures ∙ c.in_ok-of_net.ensures ∙ ap (λ (m : List ℕ). filter
    (is_of_net m c.loop-i.i) c.as_slice.result.now) c.in_ok-programmed.ensures
    ∙ ap (λ (l : List ℕ). filter (is_of_net (programmed_of c.args.nets.now) c.loop-i.i) l) c.as_slice.ensures in
    OnErr-any _ (nets-within c.args.nets.now c.points.ensures.valid (omega (arith, c.points.ensures.points)) (g.R.Rig.state c.args.seat.now)
    (g.R.Rig.state c.head_of.new.seat) (Splitting-stopped c.loop-i.invariant
    (omega (arith, c.loop-i-test.true, c.points-i-end.ensures.points, ap length c.in_ok-programmed.ensures))
    (rw c.in_ok-programmed.ensures at (c.judges.ensures.judged c.if-not-judges.false)) (rw group at c.in_ok-head.ensures.at_most)))

pub loop-i-preserved : goal.loop-i-preserved
loop-i-preserved g c =
    let group : c.as_slice-in-loop-i.result.now ≡ filter (is_of_net (programmed_of c.args.nets.now) c.loop-i.i) c.loop-i.heads =
    c.as_slice-in-loop-i.ensures ∙ c.in_ok-of_net.ensures ∙ ap (λ (m : List ℕ). filter
    (is_of_net m c.loop-i.i) c.as_slice.result.now) c.in_ok-programmed.ensures
    ∙ ap (λ (l : List ℕ). filter (is_of_net (programmed_of c.args.nets.now) c.loop-i.i) l) c.as_slice.ensures in
    let inside : c.loop-i.i < length (programmed_of c.args.nets.now) = omega
    (arith, c.loop-i-test.true, c.points-i-end.ensures.points, ap length c.in_ok-programmed.ensures) in
    let has = rw c.in_ok-programmed.ensures at (c.judges.ensures.judged c.if-not-judges.false) in
    let points = rw group at c.in_ok-head.ensures.points in
    elim c.match-branch-5.branch [
      | in-Some+in_ok-push-in-Some w ↦
          let head = rw w.in-Some.is at c.in_ok-head.ensures.head in
          rw w.heads-is (Splitting-joined c.loop-i.invariant inside has c.in_ok-head.ensures.reads points (rw group at head.0) head.1
          (rw w.in-Some.is at c.in_ok-head.ensures.spent) (rw group at c.in_ok-head.ensures.at_most) (w.pieces-is ∙ w.in_ok-push-in-Some.ensures.ok))
      | in-None+in_ok-push-in-None+in_ok-push-in-None-2 w ↦
          let none = c.in_ok-head.ensures.none (ap Ok w.in-None.is) in
          let spent = c.in_ok-head.ensures.none_spent (ap Ok w.in-None.is) in
          Splitting-new c.loop-i.invariant inside has c.in_ok-head.ensures.reads points (rw group at none) (rw group at spent)
          (w.pieces-is ∙ w.in_ok-push-in-None-2.ensures.ok) (w.heads-is ∙ w.in_ok-push-in-None.ensures.ok)
    ]

pub by_labels-requires-clause-labels : goal.by_labels-requires-clause-labels
by_labels-requires-clause-labels g c = rw c.as_slice-2.ensures (labels-valid c.loop-i.pieces c.loop-i.invariant.parted.partition)

pub returns-in_err-by_labels-clause-refused : goal.returns-in_err-by_labels-clause-refused
returns-in_err-by_labels-clause-refused g c = OnErr-any _ (nets-within c.args.nets.now c.points.ensures.valid (omega (arith, c.points.ensures.points))
    (g.R.Rig.state c.args.seat.now) (g.R.Rig.state c.loop-i.seat) (Splitting-within c.loop-i.invariant (omega arith)))

pub returns-clause-pieces : goal.returns-clause-pieces
returns-clause-pieces g c =
    let labels : c.in_ok-by_labels.field-0 ≡ c.loop-i.pieces =
    c.in_ok-by_labels.ensures ∙ ap (λ (l : List ℕ). classes_by (judged_in l) (length l) (class_at l)) c.as_slice-2.ensures
    ∙ sym (classing-IsPartition c.loop-i.pieces c.loop-i.invariant.parted.partition) in
    let P : List ℕ → Type 0 = λ l. ArePieces (g.R.Rig.state c.loop-i.seat) (programmed_of c.args.nets.now) l in
    subst P (sym labels)
    (Splitting-pieces c.loop-i.invariant
    (omega (arith, c.loop-i.auto.i-end, c.loop-i-test.false, c.points-i-end.ensures.points, ap length c.in_ok-programmed.ensures)))

pub returns-clause-some : goal.returns-clause-some
returns-clause-some g c =
    let labels : c.in_ok-by_labels.field-0 ≡ c.loop-i.pieces =
    c.in_ok-by_labels.ensures ∙ ap (λ (l : List ℕ). classes_by (judged_in l) (length l) (class_at l)) c.as_slice-2.ensures
    ∙ sym (classing-IsPartition c.loop-i.pieces c.loop-i.invariant.parted.partition) in
    omega (
      arith,
      Splitting-some c.loop-i.invariant
          (omega (arith, c.loop-i.auto.i-end, c.loop-i-test.false, c.points-i-end.ensures.points, ap length c.in_ok-programmed.ensures)),
      ap
          (λ (l : List ℕ). length (heads l)) labels,
    )

pub returns-clause-few : goal.returns-clause-few
returns-clause-few g c =
    let labels : c.in_ok-by_labels.field-0 ≡ c.loop-i.pieces =
    c.in_ok-by_labels.ensures ∙ ap (λ (l : List ℕ). classes_by (judged_in l) (length l) (class_at l)) c.as_slice-2.ensures
    ∙ sym (classing-IsPartition c.loop-i.pieces c.loop-i.invariant.parted.partition) in
    omega (
      arith,
      Splitting-few c.loop-i.invariant
          (omega (arith, c.loop-i.auto.i-end, c.loop-i-test.false, c.points-i-end.ensures.points, ap length c.in_ok-programmed.ensures)),
      ap
          (λ (l : List ℕ). length (heads l)) labels,
      counted-programmed c.args.nets.now c.points.ensures.valid (omega (arith, c.points.ensures.points)),
    )

pub returns-clause-at_least : goal.returns-clause-at_least
returns-clause-at_least g c = omega (
  arith,
  Splitting-at_least c.loop-i.invariant
      (omega (arith, c.loop-i.auto.i-end, c.loop-i-test.false, c.points-i-end.ensures.points, ap length c.in_ok-programmed.ensures)),
  counted-programmed c.args.nets.now c.points.ensures.valid (omega (arith, c.points.ensures.points)),
)

pub returns-clause-at_most : goal.returns-clause-at_most
returns-clause-at_most g c =
    let labels : c.in_ok-by_labels.field-0 ≡ c.loop-i.pieces =
    c.in_ok-by_labels.ensures ∙ ap (λ (l : List ℕ). classes_by (judged_in l) (length l) (class_at l)) c.as_slice-2.ensures
    ∙ sym (classing-IsPartition c.loop-i.pieces c.loop-i.invariant.parted.partition) in
    let P : ℕ → List ℕ → Type 0 = λ n l. (g.R.Rig.state c.loop-i.seat).spent ≤ (g.R.Rig.state c.args.seat.now).spent + most_placing n
    (length (heads (programmed_of c.args.nets.now))) (length (heads l)) in
    subst (λ (l : List ℕ). P (length (judged_points c.args.nets.now)) l) (sym labels)
    (subst (λ (n : ℕ). P n c.loop-i.pieces) (counted-programmed c.args.nets.now c.points.ensures.valid (omega (arith, c.points.ensures.points)))
    (Splitting-at_most c.loop-i.invariant
    (omega (arith, c.loop-i.auto.i-end, c.loop-i-test.false, c.points-i-end.ensures.points, ap length c.in_ok-programmed.ensures))))
