-- What is read of an outcome is what is spelled there.
use Rattle.std.proofs.Common.{◌≡◌, ℕ, ◌<◌, ◌≤◌, ◌^◌, Bool, true, false, cond, eqb, List, [], ◌∷◌, ◌++◌, length, Option, Some, None, All, refl, ap, subst, ◌∙◌, arith, ◌⊎◌, inl, inr}
use Rattle.std.proofs.lemmas.Bool.{eqb-true}
use Rattle.std.proofs.lemmas.Option.{same_Some, cond_some}
use Rattle.std.specs.Option.{IfSome}
use Rattle.std.specs.Int.{w16, w64}
use Rattle.wirelist.specs.declared.faults.PartFaultKind.{PartFaultKind}
use Rattle.wirelist.specs.declared.faults.PartFaultKind.TheVariants.{Low, High, OpenPart, WrongWay, Leaky}
use Rattle.wirelist.specs.declared.outcome.Outcome.{Outcome}
use Rattle.wirelist.specs.declared.outcome.Outcome.TheVariants.{Pass, Wiring, Parts, Insulation, Withstand}
use Rattle.wirelist.specs.Ranges.{most_points, PieceInRange, ShortInRange, DifferenceInRange, PartFaultInRange, KindInRange, LeakFaultInRange, IsReading, OutcomeInRange}
use Rattle.records.specs.RecordBytes.{two_bytes, eight_bytes, counted, piece_bytes, short_bytes, difference_bytes, kind_bytes, part_fault_bytes, leak_bytes, leak_fault_bytes, outcome_bytes}
use Rattle.records.specs.Reading.{Reader, both_at, made_at, chosen_at, byte_at, number_at, counted_at, piece_at, short_at, difference_at, kind_from, part_fault_at, leak_from, leak_at, leak_fault_at, withstand_at, tagged_at, outcome_at}
use Rattle.records.proofs.Orders.{piece_few, short_few}
use Rattle.records.proofs.Readers.{IsBytes, IsBytes-rest, bind_some, IsReader, both_reader, made_reader, chosen_reader, byte_reader, number16, number64, Countable, counted_reader}

-- ---- wiring

counted16 : IsReader (Countable (λ n. n < 2 ^ 16)) (counted two_bytes) (counted_at (number_at w16))
counted16 = counted_reader number16

small : (xs : List ℕ) → length xs ≤ most_points → All (λ p. p < most_points) xs → Countable (λ n. n < 2 ^ 16) xs
small xs few all = (omega arith, λ k d lt. let below = all k d lt in omega arith)

pub piece_reader : IsReader PieceInRange piece_bytes piece_at
unfolding piece_at
piece_reader = made_reader (both_reader number16 (both_reader number16 counted16)) PieceInRange piece_bytes _ (λ x. refl)
    (λ p fits. ((p.net, (p.class, p.points)), (omega (arith, fits.0), (omega (arith, fits.1), small p.points (piece_few p fits) fits.2)), refl))

pub short_reader : IsReader ShortInRange short_bytes short_at
unfolding short_at
short_reader = made_reader (both_reader number16 counted16) ShortInRange short_bytes _ (λ x. refl)
    (λ s fits. ((s.class, s.nets), (omega (arith, fits.0), small s.nets (short_few s fits) fits.1), refl))

pub difference_reader : IsReader DifferenceInRange difference_bytes difference_at
unfolding difference_at
difference_reader = made_reader (both_reader (counted_reader piece_reader) (both_reader (counted_reader short_reader) (counted_reader piece_reader))) DifferenceInRange difference_bytes _ (λ x. refl)
    (λ d fits. ((d.opens, (d.shorts, d.miswires)), ((omega (arith, fits.opens_in.0), fits.opens_in.1), ((omega (arith, fits.shorts_in.0), fits.shorts_in.1), (omega (arith, fits.miswires_in.0), fits.miswires_in.1))), refl))

-- ---- faults

-- which way a test went
pub chosen : {X : Type 0} (b : Bool) (x y z : X) → cond b x y ≡ z → ((b ≡ true) × (x ≡ z)) ⊎ ((b ≡ false) × (y ≡ z))
chosen true x y z e = inl (refl, e)
chosen false x y z e = inr (refl, e)

kind_is : (tag n : ℕ) (kind : PartFaultKind) → kind_from (tag, n) ≡ Some kind → tag ∷ eight_bytes n ≡ kind_bytes kind
unfolding kind_from
kind_is tag n kind e =
    let at : (t : ℕ) (k : PartFaultKind) → tag ≡ t → Some k ≡ Some kind → t ∷ eight_bytes n ≡ kind_bytes k → tag ∷ eight_bytes n ≡ kind_bytes kind =
    λ t k is same spelled. ap (λ (z : ℕ). z ∷ eight_bytes n) is ∙ spelled ∙ ap kind_bytes (same_Some k kind same) in
    elim (chosen (eqb tag 0) _ _ _ e) [
      | inl h ↦ at 0 (Low n) (eqb-true tag 0 h.0) h.1 refl
      | inr h0 ↦ elim (chosen (eqb tag 1) _ _ _ h0.1) [
        | inl h ↦ at 1 (High n) (eqb-true tag 1 h.0) h.1 refl
        | inr h1 ↦ elim (chosen (eqb tag 2) _ _ _ h1.1) [
          | inl h ↦
              let zero = cond_some (eqb n 0) OpenPart kind h.1 in
              at 2 OpenPart (eqb-true tag 2 h.0) (ap (λ (k : PartFaultKind). Some k) zero.1) (ap (λ (v : ℕ). 2 ∷ eight_bytes v) (eqb-true n 0 zero.0))
          | inr h2 ↦ elim (chosen (eqb tag 3) _ _ _ h2.1) [
            | inl h ↦ at 3 (WrongWay n) (eqb-true tag 3 h.0) h.1 refl
            | inr h3 ↦
                let last = cond_some (eqb tag 4) (Leaky n) kind h3.1 in
                at 4 (Leaky n) (eqb-true tag 4 last.0) (ap (λ (k : PartFaultKind). Some k) last.1) refl
          ]
        ]
      ]
    ]

kind_back : (kind : PartFaultKind) → KindInRange kind → (x : ℕ × ℕ) × (Unit {0} × (x.1 < 2 ^ 64)) × (kind_from x ≡ Some kind) × ((x.0 ∷ []) ++ eight_bytes x.1 ≡ kind_bytes kind)
unfolding kind_from
kind_back (Low n) fits = ((0, n), (tt, fits), refl, refl)
kind_back (High n) fits = ((1, n), (tt, fits), refl, refl)
kind_back OpenPart fits = ((2, 0), (tt, omega arith), refl, refl)
kind_back (WrongWay n) fits = ((3, n), (tt, fits), refl, refl)
kind_back (Leaky n) fits = ((4, n), (tt, fits), refl, refl)

kind_reader : IsReader KindInRange kind_bytes (chosen_at kind_from (both_at byte_at (number_at w64)))
kind_reader = chosen_reader (both_reader byte_reader number64) KindInRange kind_bytes kind_from (λ x kind e. kind_is x.0 x.1 kind e) kind_back

pub part_fault_reader : IsReader PartFaultInRange part_fault_bytes part_fault_at
unfolding part_fault_at
part_fault_reader = made_reader (both_reader number16 kind_reader) PartFaultInRange part_fault_bytes _ (λ x. refl)
    (λ f fits. ((f.part, f.kind), (omega (arith, fits.0), fits.1), refl))

leak_is : (tag n : ℕ) (leak : Option ℕ) → leak_from (tag, n) ≡ Some leak → tag ∷ eight_bytes n ≡ leak_bytes leak
unfolding leak_from
leak_is tag n leak e =
    let at : (t : ℕ) (l : Option ℕ) → tag ≡ t → Some l ≡ Some leak → t ∷ eight_bytes n ≡ leak_bytes l → tag ∷ eight_bytes n ≡ leak_bytes leak =
    λ t l is same spelled. ap (λ (z : ℕ). z ∷ eight_bytes n) is ∙ spelled ∙ ap leak_bytes (same_Some l leak same) in
    elim (chosen (eqb tag 0) _ _ _ e) [
      | inl h ↦
          let zero = cond_some (eqb n 0) None leak h.1 in
          at 0 None (eqb-true tag 0 h.0) (ap (λ (l : Option ℕ). Some l) zero.1) (ap (λ (v : ℕ). 0 ∷ eight_bytes v) (eqb-true n 0 zero.0))
      | inr h0 ↦
          let last = cond_some (eqb tag 1) (Some n) leak h0.1 in
          at 1 (Some n) (eqb-true tag 1 last.0) (ap (λ (l : Option ℕ). Some l) last.1) refl
    ]

leak_back : (leak : Option ℕ) → IfSome leak IsReading → (x : ℕ × ℕ) × (Unit {0} × (x.1 < 2 ^ 64)) × (leak_from x ≡ Some leak) × ((x.0 ∷ []) ++ eight_bytes x.1 ≡ leak_bytes leak)
unfolding leak_from
leak_back None fits = ((0, 0), (tt, omega arith), refl, refl)
leak_back (Some n) fits = ((1, n), (tt, fits), refl, refl)

pub leak_reader : IsReader {X = Option ℕ} (λ leak. IfSome leak IsReading) leak_bytes leak_at
unfolding leak_at
leak_reader = chosen_reader (both_reader byte_reader number64) (λ leak. IfSome leak IsReading) leak_bytes leak_from (λ x leak e. leak_is x.0 x.1 leak e) leak_back

pub leak_fault_reader : IsReader LeakFaultInRange leak_fault_bytes leak_fault_at
unfolding leak_fault_at
leak_fault_reader = made_reader (both_reader number16 leak_reader) LeakFaultInRange leak_fault_bytes _ (λ x. refl)
    (λ f fits. ((f.cluster, f.reading), (omega (arith, fits.0), fits.1), refl))

-- ---- outcomes

-- what stands behind a tag, as an outcome
takes_under : {X : Type 0} {F : X → Type 0} {s : X → List ℕ} {r : Reader X} (tag : ℕ) → IsReader F s r → (made : X → Outcome) → ((x : X) → tag ∷ s x ≡ outcome_bytes (made x))
    → (bytes : List ℕ) (o : Outcome) (rest : List ℕ) → IsBytes bytes → made_at made r bytes ≡ Some (o, rest) → tag ∷ bytes ≡ outcome_bytes o ++ rest
takes_under {X} {F} {s} {r} tag a made spelled bytes o rest fits e =
    let m = bind_some (r bytes) (λ x. Some (made x.0, x.1)) (o, rest) e in
    let whole : Outcome × List ℕ = (made m.0.0, m.0.1) in
    let parts : tag ∷ bytes ≡ outcome_bytes (made m.0.0) ++ m.0.1 = ap (λ (z : List ℕ). tag ∷ z) (a.takes bytes m.0.0 m.0.1 fits m.1) ∙ ap (λ (z : List ℕ). z ++ m.0.1) (spelled m.0.0) in
    subst (λ (z : Outcome × List ℕ). tag ∷ bytes ≡ outcome_bytes z.0 ++ z.1) (same_Some whole (o, rest) m.2) parts

tagged_takes : (tag : ℕ) (bytes : List ℕ) (o : Outcome) (rest : List ℕ) → IsBytes bytes → tagged_at tag bytes ≡ Some (o, rest) → tag ∷ bytes ≡ outcome_bytes o ++ rest
unfolding tagged_at withstand_at
tagged_takes tag bytes o rest fits e =
    let at : (t : ℕ) → tag ≡ t → t ∷ bytes ≡ outcome_bytes o ++ rest → tag ∷ bytes ≡ outcome_bytes o ++ rest = λ t is spelled. ap (λ (z : ℕ). z ∷ bytes) is ∙ spelled in
    elim (chosen (eqb tag 0) _ _ _ e) [
      | inl h ↦ at 0 (eqb-true tag 0 h.0) (let made : Outcome × List ℕ = (Pass, bytes) in ap (λ (z : Outcome × List ℕ). outcome_bytes z.0 ++ z.1) (same_Some made (o, rest) h.1))
      | inr h0 ↦ elim (chosen (eqb tag 1) _ _ _ h0.1) [
        | inl h ↦ at 1 (eqb-true tag 1 h.0) (takes_under 1 difference_reader (λ d. Wiring d) (λ d. refl) bytes o rest fits h.1)
        | inr h1 ↦ elim (chosen (eqb tag 2) _ _ _ h1.1) [
          | inl h ↦ at 2 (eqb-true tag 2 h.0) (takes_under 2 (counted_reader part_fault_reader) (λ faults. Parts faults) (λ faults. refl) bytes o rest fits h.1)
          | inr h2 ↦ elim (chosen (eqb tag 3) _ _ _ h2.1) [
            | inl h ↦ at 3 (eqb-true tag 3 h.0) (takes_under 3 (counted_reader leak_fault_reader) (λ faults. Insulation faults) (λ faults. refl) bytes o rest fits h.1)
            | inr h3 ↦
                elim (chosen (eqb tag 4) _ _ _ h3.1) [
                  | inl h ↦ at 4 (eqb-true tag 4 h.0) (takes_under 4 (both_reader byte_reader (both_reader number16 leak_reader)) (λ w. Withstand w.0 w.1.0 w.1.1) (λ w. refl) bytes o rest fits h.1)
                  | inr h ↦ absurd (let none = h.1 in cc)
                ]
          ]
        ]
      ]
    ]

outcome_takes : (bytes : List ℕ) (o : Outcome) (rest : List ℕ) → IsBytes bytes → outcome_at bytes ≡ Some (o, rest) → bytes ≡ outcome_bytes o ++ rest
unfolding outcome_at
outcome_takes bytes o rest fits e =
    let m = bind_some (byte_at bytes) (λ tag. tagged_at tag.0 tag.1) (o, rest) e in
    let first : bytes ≡ m.0.0 ∷ m.0.1 = byte_reader.takes bytes m.0.0 m.0.1 fits m.1 in
    first ∙ tagged_takes m.0.0 m.0.1 o rest (IsBytes-rest bytes (m.0.0 ∷ []) m.0.1 fits first) m.2

outcome_again : (o : Outcome) (rest : List ℕ) → OutcomeInRange o → outcome_at (outcome_bytes o ++ rest) ≡ Some (o, rest)
unfolding outcome_at tagged_at withstand_at
outcome_again Pass rest fits = refl
outcome_again (Wiring d) rest fits = rw (difference_reader.again d rest fits) refl
outcome_again (Parts faults) rest fits = rw ((counted_reader part_fault_reader).again faults rest (omega (arith, fits.1), fits.2)) refl
outcome_again (Insulation faults) rest fits = rw ((counted_reader leak_fault_reader).again faults rest (omega (arith, fits.1), fits.2)) refl
outcome_again (Withstand bit volts leak) rest fits = rw ((both_reader byte_reader (both_reader number16 leak_reader)).again (bit, (volts, leak)) rest (tt, (omega (arith, fits.1.1), fits.2))) refl

pub outcome_reader : IsReader OutcomeInRange outcome_bytes outcome_at
outcome_reader = record { takes = outcome_takes; again = outcome_again }
