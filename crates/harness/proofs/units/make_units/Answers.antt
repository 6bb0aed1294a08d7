use Rattle.std.proofs.Common.{◌≡◌, ◌+◌, ℕ, List, [], Option, Some, None, length, get_or, drop, sym, ◌∙◌, ap, subst, arith}
use Rattle.std.specs.Prelude.{All}
use Rattle.std.proofs.lemmas.Option.{slice_get_within}
use Rattle.std.proofs.lemmas.List.{take_rest}
use Rattle.std.proofs.lemmas.List.FromFn.{length-range_with_len}
use Rattle.partition.specs.Classes.{points_below}
use Rattle.rig.specs.declared.unit.Row.{Row}
use Rattle.rig.specs.Joins.{IsRowBelow, joined_classes}
use Rattle.harness.specs.declared.row.HarnessRow.{HarnessRow}
use Rattle.harness.specs.Places.{StandBelow, points_in}
use Rattle.harness.specs.Units.{elements_of}
use Rattle.harness.specs.Pairs.{IsFirstRepeat}
use Rattle.harness.specs.declared.forest.Forest.{Forest}
use Rattle.harness.proofs.Sound.{Making, making_other, making_unit, making_end, making_units, least_second, second_inside, elements_at_below, few_points}
use Rattle.harness.proofs.units.make_units.Goals as goal
use Rattle.harness.proofs.units.make_units.Goals.{in-NewUnit+in_ok-elements+in_ok-second+in_default-2+in_ok-push, in_default}

size_of : (ps : List ℕ) (n : ℕ) → ps ≡ points_below n → length ps ≡ n
size_of ps n is = ap length is ∙ length-range_with_len 0 n

below_of : (rows : List HarnessRow) (k points : ℕ) (shown elements : List Row) (ps : List ℕ) → StandBelow [] rows → points ≡ points_in rows → ps ≡ points_below points → elements ≡ elements_of (drop k rows) → shown ≡ elements →
    All (IsRowBelow (length ps)) shown
below_of rows k points shown elements ps stand points_are alone elements_are shown_are =
    subst (λ n. All (IsRowBelow n) shown) (sym (size_of ps points alone ∙ points_are))
    (subst (λ (es : List Row). All (IsRowBelow (points_in rows)) es) (sym (shown_are ∙ elements_are)) (elements_at_below rows k stand))

pub second_of-requires-clause-alone : goal.second_of-requires-clause-alone
second_of-requires-clause-alone c =
    let is = c.loop-place.invariant.alone in is ∙ ap points_below (sym (size_of c.loop-place.forest.parents.items c.args.points is))

pub second_of-requires-clause-below : goal.second_of-requires-clause-below
second_of-requires-clause-below c =
    below_of c.args.rows.now (c.loop-place.place + 1) c.args.points c.as_slice.result.now c.in_ok-elements.elements c.loop-place.forest.parents.items c.requires.stand c.requires.points c.loop-place.invariant.alone
    (c.in_ok-elements.ensures ∙ ap elements_of (take_rest c.args.rows.now (c.loop-place.place + 1))) c.as_slice.ensures

pub second_of-requires-clause-few : goal.second_of-requires-clause-few
second_of-requires-clause-few c =
    let few = few_points c.args.rows.now c.requires.stand in
    let size = size_of c.loop-place.forest.parents.items c.args.points c.loop-place.invariant.alone in
    let points = c.requires.points in omega arith

row_is : (rows : List HarnessRow) (place : ℕ) (row unit : HarnessRow) → row ≡ get_or rows place row → row ≡ unit → unit ≡ get_or rows place unit
row_is rows place row unit at is = subst (λ (r : HarnessRow). r ≡ get_or rows place r) is at

short_of : (m : List ℕ) (es : List Row) (found : Option ℕ) (j : ℕ) → found ≡ Some j → IsFirstRepeat m es found → IsFirstRepeat m es (Some j)
short_of m es found j is first = subst (IsFirstRepeat m es) is first

pub number_at-requires : goal.number_at-requires
number_at-requires c =
    let elements_are = c.as_slice.ensures ∙ c.in_ok-elements.ensures ∙ ap elements_of (take_rest c.args.rows.now (c.loop-place.place + 1)) in
    let first = short_of _ c.as_slice.result.now c.in_ok-second.field-0 c.in-Some.second c.in-Some.is c.in_ok-second.ensures.found in
    let h = second_inside c.args.rows.now c.loop-place.place c.in-Some.second c.as_slice.result.now elements_are (slice_get_within c.as_slice.result.now c.in-Some.second first.0.row first.0.stands) in
    let same = c.requires.numbered in omega arith

pub overflow_add-place-in-Some : goal.overflow_add-place-in-Some
overflow_add-place-in-Some c =
    let elements_are = c.as_slice.ensures ∙ c.in_ok-elements.ensures ∙ ap elements_of (take_rest c.args.rows.now (c.loop-place.place + 1)) in
    let first = short_of _ c.as_slice.result.now c.in_ok-second.field-0 c.in-Some.second c.in-Some.is c.in_ok-second.ensures.found in
    let h = second_inside c.args.rows.now c.loop-place.place c.in-Some.second c.as_slice.result.now elements_are (slice_get_within c.as_slice.result.now c.in-Some.second first.0.row first.0.stands) in
    omega arith

pub returns-in-Some-clause-refused : goal.returns-in-Some-clause-refused
returns-in-Some-clause-refused c =
    let elements_are = c.as_slice.ensures ∙ c.in_ok-elements.ensures ∙ ap elements_of (take_rest c.args.rows.now (c.loop-place.place + 1)) in
    let first = short_of _ c.as_slice.result.now c.in_ok-second.field-0 c.in-Some.second c.in-Some.is c.in_ok-second.ensures.found in
    let size = size_of c.loop-place.forest.parents.items c.args.points c.loop-place.invariant.alone in (
      c.loop-place.place,
      c.in-Some.second,
      least_second c.args.rows.now c.in-NewUnit.serial c.in-NewUnit.attempt c.loop-place.place (length c.loop-place.forest.parents.items) c.in-Some.second c.as_slice.result.now c.loop-place.units c.loop-place-test.true
          (row_is c.args.rows.now c.loop-place.place c.index-rows-place.result _ c.index-rows-place.is c.in-NewUnit.is) (size ∙ c.requires.points) elements_are first c.loop-place.invariant.making,
      c.number_at.ensures,
    )

pub loop-place-preserved : goal.loop-place-preserved
loop-place-preserved c =
    let rows = c.args.rows.now in
    let place = c.loop-place.place in
    elim c.match-row.branch [
      | in-NewUnit+in_ok-elements+in_ok-second+in_default-2+in_ok-push w ↦
          let elements_are = w.in_ok-elements.ensures ∙ ap elements_of (take_rest rows (place + 1)) in
          let n = length c.loop-place.forest.parents.items in
          let size = size_of c.loop-place.forest.parents.items c.args.points c.loop-place.invariant.alone in
          let shown = subst (λ (found : Option ℕ). IsFirstRepeat (joined_classes w.as_slice.result.now n) w.as_slice.result.now found) w.in_default-2.is w.in_ok-second.ensures.found in
          let single = subst (λ (es : List Row). IsFirstRepeat (joined_classes es n) es None) w.as_slice.ensures shown in
          record {
            alone = ap (λ (f : Forest). f.parents.items) w.forest-is ∙ w.in_ok-second.ensures.alone ∙ c.loop-place.invariant.alone;
            making = subst (Making rows (place + 1)) (sym w.units-is)
                (making_unit rows w.in-NewUnit.serial w.in-NewUnit.attempt place n w.in_ok-elements.elements c.loop-place.units w.push.new.self c.loop-place-test.true
                (row_is rows place c.index-rows-place.result _ c.index-rows-place.is w.in-NewUnit.is) (size ∙ c.requires.points) elements_are single w.in_ok-push.ensures.ok c.loop-place.invariant.making);
          }
      | in_default w ↦ record {
        alone = ap (λ (f : Forest). f.parents.items) w.forest-is ∙ c.loop-place.invariant.alone;
        making = subst (Making rows (place + 1)) (sym w.units-is)
            (making_other rows c.index-rows-place.result place c.loop-place.units c.loop-place-test.true c.index-rows-place.is (λ s a e. w.in_default.not-NewUnit s a e) c.loop-place.invariant.making);
      }
    ]

pub returns-clause-single : goal.returns-clause-single
returns-clause-single c = making_end c.args.rows.now c.loop-place.place c.loop-place.units c.loop-place-test.false c.loop-place.invariant.making

pub returns-clause-units : goal.returns-clause-units
returns-clause-units c = making_units c.args.rows.now c.loop-place.place c.loop-place.units c.loop-place-test.false c.loop-place.invariant.making
