-- The order of events that follow others, from what the source stands at.
use Rattle.std.proofs.Common.{◌≡◌, ℕ, Bool, true, false, ◌||◌, List, [], ◌∷◌, ◌++◌, Option, Some, refl, sym, ◌∙◌, ap, subst, arith, append_assoc, append-nil, length-append}
use Rattle.std.specs.Prelude.{All, IsSomeAnd, nat_lt}
use Rattle.std.proofs.lemmas.List.{get_or_append_left}
use Rattle.std.proofs.lemmas.List.Sums.{fold-append}
use Rattle.rig.specs.declared.event.Event.{Event}
use Rattle.rig.specs.declared.event.Event.TheVariants.{Reading, Ohms, Junction, Door, Route, Raise, Leak, Zero, Residual, Tick}
use Rattle.rig.specs.RigState.{RigState}
use Rattle.rig.specs.Trail.{AgreesWith, Determines, IsDeterminedBy}
use Rattle.rig.specs.Source.{Source, at_rest, source_after, source_from, source_of}
use Rattle.rig.specs.HvOrder.{HvOrder, IsRaisedAfter, MayFollowAll, OrderAfter}

-- ---- the source

pub source_from-append : (s : Source) (xs ys : List Event) → source_from s (xs ++ ys) ≡ source_from (source_from s xs) ys
source_from-append s xs ys = fold-append source_after s xs ys

pub MayFollowAll-append : (bonds : List ℕ) (s : Source) (xs ys : List Event) → MayFollowAll bonds s xs → MayFollowAll bonds (source_from s xs) ys → MayFollowAll bonds s (xs ++ ys)
MayFollowAll-append bonds s [] ys first second = second
MayFollowAll-append bonds s (x ∷ xs) ys first second = (first.0, MayFollowAll-append bonds (source_after s x) xs ys first.1 second)

-- after a last Zero that was done, or none, no voltage stands and no stop is due
pub IsConsistent : Source → Type 0
IsConsistent s = s.ended ≡ true → (s.volts ≡ 0) × (s.stop_due ≡ false)

consistent-after : (s : Source) (e : Event) → IsConsistent s → IsConsistent (source_after s e)
unfolding IsConsistent
consistent-after s (Reading a b met) h = h
consistent-after s (Ohms a b r) h = h
consistent-after s (Junction a b d) h = h
consistent-after s (Door true) h = h
consistent-after s (Door false) h = λ ended.
    let rest = h ended in
    (rest.0, ap (λ (d : Bool). d || nat_lt 0 s.volts) rest.1 ∙ ap (nat_lt 0) rest.0)
consistent-after s (Route a b) h = h
consistent-after s (Raise v done) h = λ ended. cc
consistent-after s (Leak g) h = h
consistent-after s (Zero true) h = λ ended. (refl, refl)
consistent-after s (Zero false) h = λ ended. cc
consistent-after s (Residual v) h = h
consistent-after s Tick h = h

consistent-all : (s : Source) (es : List Event) → IsConsistent s → IsConsistent (source_from s es)
consistent-all s [] h = h
consistent-all s (e ∷ es) h = consistent-all (source_after s e) es (consistent-after s e h)

pub rest-of : (trail : List Event) → (source_of trail).ended ≡ true → ((source_of trail).volts ≡ 0) × ((source_of trail).stop_due ≡ false)
unfolding IsConsistent
rest-of trail ended = consistent-all at_rest trail (λ e. (refl, refl)) ended

-- ---- readings that stand determine as much when more events follow

pub determined-more : (t more : List Event) (classes : List ℕ) → IsDeterminedBy t classes → IsDeterminedBy (t ++ more) classes
determined-more t more classes by = λ other over ok all.
    by other over ok (λ k d lt. subst (AgreesWith other) (get_or_append_left t more d k lt) (all k d (omega (arith, length-append t more))))

-- what a state determines, its trail does
pub state-determined : (s : RigState) (trail : List Event) (classes : List ℕ) → s.trail ≡ Some trail → Determines s classes → IsDeterminedBy trail classes
state-determined s trail classes is determines = λ other over ok all.
    let P : Option (List Event) → Type 0 = λ o. IsSomeAnd o (All (AgreesWith other)) in
    determines other over (record { partition = ok; readings = subst P (sym is) all })

raised-after : (t : List Event) (classes : List ℕ) (e : Event) → IsDeterminedBy t classes → IsRaisedAfter classes t e
raised-after t classes (Raise v done) by = by
raised-after t classes (Reading a b met) by = tt
raised-after t classes (Ohms a b r) by = tt
raised-after t classes (Junction a b d) by = tt
raised-after t classes (Door closed) by = tt
raised-after t classes (Route a b) by = tt
raised-after t classes (Leak g) by = tt
raised-after t classes (Zero done) by = tt
raised-after t classes (Residual v) by = tt
raised-after t classes Tick by = tt

-- ---- the order

-- events that the source allows are in the order, after readings that determine the partition
pub OrderAfter-allowed : (classes bonds : List ℕ) (t es : List Event) → IsDeterminedBy t classes → MayFollowAll bonds (source_of t) es → OrderAfter classes bonds t es
OrderAfter-allowed classes bonds t [] by may = tt
OrderAfter-allowed classes bonds t (e ∷ es) by may =
    let next : source_of (t ++ e ∷ []) ≡ source_after (source_of t) e = source_from-append at_rest t (e ∷ []) in (
      record { source = may.0; readings = raised-after t classes e by },
      OrderAfter-allowed classes bonds (t ++ e ∷ []) es (determined-more t (e ∷ []) classes by) (subst (λ s. MayFollowAll bonds s es) (sym next) may.1),
    )

pub OrderAfter-append : (classes bonds : List ℕ) (t xs ys : List Event) → OrderAfter classes bonds t xs → OrderAfter classes bonds (t ++ xs) ys → OrderAfter classes bonds t (xs ++ ys)
OrderAfter-append classes bonds t [] ys first second = subst (λ (z : List Event). OrderAfter classes bonds z ys) (append-nil t) second
OrderAfter-append classes bonds t (x ∷ xs) ys first second =
    (first.0, OrderAfter-append classes bonds (t ++ x ∷ []) xs ys first.1 (subst (λ (z : List Event). OrderAfter classes bonds z ys) (sym (append_assoc t (x ∷ []) xs)) second))

-- a trail in order stays so with events that the source allows
pub HvOrder-more : (classes bonds : List ℕ) (t es : List Event) → HvOrder classes bonds t → IsDeterminedBy t classes → MayFollowAll bonds (source_of t) es → HvOrder classes bonds (t ++ es)
HvOrder-more classes bonds t es order by may = OrderAfter-append classes bonds [] t es order (OrderAfter-allowed classes bonds t es by may)
