use Rattle.std.proofs.Common.{◌≡◌, ◌+◌, ℕ, List, Bool, true, false, length, cond, refl, sym, ◌∙◌, ap, subst}
use Rattle.std.specs.Prelude.{not}
use Rattle.std.specs.Ordering.{nat_cmp}
use Rattle.std.specs.BTreeSet.{contains}
use Rattle.harness.specs.declared.forest.Forest.{Forest}
use Rattle.harness.specs.Forest.{IsForest, AreListed, Climbs}
use Rattle.harness.specs.Pairs.{pair_of}
use Rattle.harness.proofs.Trees.{climb_listed, root_class}
use Rattle.harness.proofs.Repeats.{is_at_eq, differ_of, same_of, Seen, seen_other, seen_joined, seen_new, seen_again, seen_end}
use Rattle.harness.proofs.second.first_repeat.Goals as goal
use Rattle.harness.proofs.second.first_repeat.Goals.{in-Some+else-ne, else-ne-via-then-ne+in_ok-insert+else-not-branch, else-ne-via-else-ne, in_default}

two_listed : (old one two before between after : List ℕ) (a b c d : ℕ) → Climbs old one a b → Climbs one two c d → between ≡ before → after ≡ between → AreListed old before → AreListed two after
two_listed old one two before between after a b c d first second same again listed =
    subst (AreListed two) (sym (again ∙ same)) (climb_listed one two before c d second (climb_listed old one before a b first listed))

pair_key : (key one other x y : ℕ) → key ≡ pair_of one other → x ≡ one → y ≡ other → key ≡ pair_of x y
pair_key key one other x y is first second = is ∙ ap (λ k. pair_of k other) (sym first) ∙ ap (λ k. pair_of x k) (sym second)

not_false : (b : Bool) → b ≡ false → (c : Bool) → b ≡ not c → c ≡ true
not_false b e true f = refl
not_false b e false f = cc

not_true : (b : Bool) → b ≡ true → (c : Bool) → b ≡ not c → c ≡ false
not_true b e true f = cc
not_true b e false f = refl

pub returns-then-not-branch-clause-listed : goal.returns-then-not-branch-clause-listed
returns-then-not-branch-clause-listed g c =
    two_listed c.loop-place.forest.parents.items c.root-one.new.self.parents.items c.root-other.new.self.parents.items c.loop-place.forest.moved.items c.root-one.new.self.moved.items c.root-other.new.self.moved.items
    c.in-Some.ends.0 c.root-one.result c.in-Some.ends.1 c.root-other.result c.root-one.ensures.climbs c.root-other.ensures.climbs c.root-one.ensures.moved c.root-other.ensures.moved c.loop-place.invariant.listed

pub returns-then-not-branch-clause-found : goal.returns-then-not-branch-clause-found
returns-then-not-branch-clause-found g c =
    let first = root_class c.loop-place.forest.parents.items c.root-one.new.self.parents.items g.classes c.in-Some.ends.0 c.root-one.result c.root-one.ensures.climbs c.root-one.ensures.root c.loop-place.invariant.forest in
    let middle = c.root-one.ensures.climbs.forest g.classes c.loop-place.invariant.forest in
    let second = root_class c.root-one.new.self.parents.items c.root-other.new.self.parents.items g.classes c.in-Some.ends.1 c.root-other.result c.root-other.ensures.climbs c.root-other.ensures.root middle in
    let differ : c.root-one.result ≡ c.root-other.result → ⊥ = differ_of c.root-one.result c.root-other.result c.if-ne.ensures in
    seen_again g.classes c.args.rows.now c.index-rows-place.result c.loop-place.place c.in-Some.ends.0 c.in-Some.ends.1 c.pair.result c.loop-place.pairs c.loop-place-test.true c.index-rows-place.is (sym c.in-Some.ensures)
    (λ same. differ (sym first ∙ same ∙ second)) (pair_key c.pair.result c.root-one.result c.root-other.result _ _ c.pair.ensures first second)
    (not_false c.in_ok-insert.field-0 c.if-not-branch.true (contains nat_cmp c.loop-place.pairs c.pair.result) c.in_ok-insert.ensures.added) c.loop-place.invariant.seen

pub loop-place-preserved : goal.loop-place-preserved
loop-place-preserved g c =
    let i = c.loop-place.place in
    let rows = c.args.rows.now in
    elim c.match-open_ends.branch [
      | in-Some+else-ne w ↦
          let first = root_class c.loop-place.forest.parents.items w.root-one.new.self.parents.items g.classes w.in-Some.ends.0 w.root-one.result w.root-one.ensures.climbs w.root-one.ensures.root c.loop-place.invariant.forest in
          let middle = w.root-one.ensures.climbs.forest g.classes c.loop-place.invariant.forest in
          let second = root_class w.root-one.new.self.parents.items w.root-other.new.self.parents.items g.classes w.in-Some.ends.1 w.root-other.result w.root-other.ensures.climbs w.root-other.ensures.root middle in
          let listed = two_listed c.loop-place.forest.parents.items w.root-one.new.self.parents.items w.root-other.new.self.parents.items c.loop-place.forest.moved.items w.root-one.new.self.moved.items w.root-other.new.self.moved.items
          w.in-Some.ends.0 w.root-one.result w.in-Some.ends.1 w.root-other.result w.root-one.ensures.climbs w.root-other.ensures.climbs w.root-one.ensures.moved w.root-other.ensures.moved c.loop-place.invariant.listed in
          let seen : Seen g.classes rows (i + 1) c.match-open_ends.pairs = elim w.else-ne.branch [
            | else-ne-via-then-ne+in_ok-insert+else-not-branch v ↦
                let differ : w.root-one.result ≡ w.root-other.result → ⊥ = differ_of w.root-one.result w.root-other.result v.if-ne.ensures in
                subst (Seen g.classes rows (i + 1)) (sym (w.pairs-is ∙ v.pairs-is))
                (seen_new g.classes rows c.index-rows-place.result i w.in-Some.ends.0 w.in-Some.ends.1 v.pair.result c.loop-place.pairs v.insert.new.self c.loop-place-test.true c.index-rows-place.is (sym w.in-Some.ensures)
                (λ same. differ (sym first ∙ same ∙ second)) c.requires.1.0 (pair_key v.pair.result w.root-one.result w.root-other.result _ _ v.pair.ensures first second)
                (not_true v.in_ok-insert.field-0 v.if-not-branch.false (contains nat_cmp c.loop-place.pairs v.pair.result) v.in_ok-insert.ensures.added) (λ k. v.in_ok-insert.ensures.updates.0 k ∙ ap (λ b. cond b true (contains nat_cmp c.loop-place.pairs k)) (is_at_eq v.pair.result k)) c.loop-place.invariant.seen)
            | else-ne-via-else-ne v ↦
                let same_roots : w.root-one.result ≡ w.root-other.result = same_of w.root-one.result w.root-other.result v.if-ne.ensures in
                subst (Seen g.classes rows (i + 1)) (sym (w.pairs-is ∙ v.pairs-is))
                (seen_joined g.classes rows c.index-rows-place.result i w.in-Some.ends.0 w.in-Some.ends.1 c.loop-place.pairs c.loop-place-test.true c.index-rows-place.is (sym w.in-Some.ensures) (first ∙ same_roots ∙ sym second) c.requires.1.0 c.loop-place.invariant.seen)
          ] in
          record {
            size = ap (λ (f : Forest). length f.parents.items) w.forest-is ∙ w.root-other.ensures.climbs.size ∙ w.root-one.ensures.climbs.size ∙ c.loop-place.invariant.size;
            forest = subst (λ (f : Forest). IsForest f.parents.items g.classes) (sym w.forest-is) (w.root-other.ensures.climbs.forest g.classes middle);
            listed = subst (λ (f : Forest). AreListed f.parents.items f.moved.items) (sym w.forest-is) listed;
            seen = seen;
          }
      | in_default w ↦ record {
        size = ap (λ (f : Forest). length f.parents.items) w.forest-is ∙ c.loop-place.invariant.size;
        forest = subst (λ (f : Forest). IsForest f.parents.items g.classes) (sym w.forest-is) c.loop-place.invariant.forest;
        listed = subst (λ (f : Forest). AreListed f.parents.items f.moved.items) (sym w.forest-is) c.loop-place.invariant.listed;
        seen = subst (Seen g.classes rows (i + 1)) (sym w.pairs-is) (seen_other g.classes rows c.index-rows-place.result i c.loop-place.pairs c.loop-place-test.true c.index-rows-place.is (sym w.in_default.ensures) c.loop-place.invariant.seen);
      }
    ]

pub returns-clause-found : goal.returns-clause-found
returns-clause-found g c = seen_end g.classes c.args.rows.now c.loop-place.place c.loop-place.pairs c.loop-place-test.false c.loop-place.invariant.seen
