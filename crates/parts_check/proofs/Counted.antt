-- Readings of components are counted as such, and as nothing else.
use Rattle.std.proofs.Common.{◌≡◌, ℕ, ◌+◌, ◌*◌, List, [], ◌∷◌, length, Option, Some, None, refl, sym, ◌∙◌, ap, arith, add-zero, length-append}
use Rattle.std.specs.Prelude.{All, option_map}
use Rattle.std.proofs.lemmas.List.{length-map}
use Rattle.std.proofs.lemmas.List.Elements.{All-head, All-tail}
use Rattle.rig.specs.declared.event.Event.{Event}
use Rattle.rig.specs.declared.event.Event.TheVariants.{Reading, Ohms, Junction, Door, Route, Raise, Leak, Zero, Residual, Tick}
use Rattle.rig.specs.declared.event.Tally.{Tally}
use Rattle.rig.specs.declared.rig.RigStop.{RigStop}
use Rattle.rig.specs.Happened.{Happens, tally_all, with_last}
use Rattle.rig.specs.RigState.{RigState}
use Rattle.rig.specs.Trail.{IsProbe}
use Rattle.rig.proofs.Tallies.{Happens-tallies}
use Rattle.parts_check.specs.Checking.{probed_more}
use Rattle.parts_check.specs.Probed.{DiodeRead, Probed, diode_probes, ohms_event, probes_of, resistor_probes}

abbrev more_probes : ℕ → Tally → Tally
more_probes n tally = record tally { probes = tally.probes + n }

tally-probes : (v : ℕ) (es : List Event) → All IsProbe es → (y : Tally) → tally_all v es y ≡ more_probes (length es) y
tally-probes v [] all y = ap (λ (n : ℕ). record y { probes = n }) (sym (add-zero y.probes))
tally-probes v (Ohms a b r ∷ es) all y =
    tally-probes v es (All-tail IsProbe (Ohms a b r) es all) (record y { probes = y.probes + 1 }) ∙ ap (λ (n : ℕ). record y { probes = n }) (omega arith)
tally-probes v (Junction a b d ∷ es) all y =
    tally-probes v es (All-tail IsProbe (Junction a b d) es all) (record y { probes = y.probes + 1 }) ∙ ap (λ (n : ℕ). record y { probes = n }) (omega arith)
tally-probes v (Reading a b met ∷ es) all y = absurd (All-head IsProbe (Reading a b met) es all)
tally-probes v (Door closed ∷ es) all y = absurd (All-head IsProbe (Door closed) es all)
tally-probes v (Route a b ∷ es) all y = absurd (All-head IsProbe (Route a b) es all)
tally-probes v (Raise w done ∷ es) all y = absurd (All-head IsProbe (Raise w done) es all)
tally-probes v (Leak g ∷ es) all y = absurd (All-head IsProbe (Leak g) es all)
tally-probes v (Zero done ∷ es) all y = absurd (All-head IsProbe (Zero done) es all)
tally-probes v (Residual w ∷ es) all y = absurd (All-head IsProbe (Residual w) es all)
tally-probes v (Tick ∷ es) all y = absurd (All-head IsProbe Tick es all)

same-last : (f g : Tally → Tally) → ((y : Tally) → f y ≡ g y) → (tallies : List Tally) → with_last f tallies ≡ with_last g tallies
same-last f g same [] = refl
same-last f g same (t ∷ []) = ap (λ (y : Tally). y ∷ []) (same t)
same-last f g same (t ∷ u ∷ ts) = ap (λ (ys : List Tally). t ∷ ys) (same-last f g same (u ∷ ts))

same-tallies : (f g : Tally → Tally) → ((y : Tally) → f y ≡ g y) → (tallies : Option (List Tally))
    → option_map (with_last f) tallies ≡ option_map (with_last g) tallies
same-tallies f g same None = refl
same-tallies f g same (Some tallies) = ap Some (same-last f g same tallies)

length-diode_probes : (reads : List DiodeRead) → length (diode_probes reads) ≡ 2 * length reads
length-diode_probes [] = refl
length-diode_probes (x ∷ xs) = let rest = length-diode_probes xs in omega arith

pub length-probes : (probed : Probed) → length (probes_of probed) ≡ length probed.resistors + 2 * length probed.diodes
length-probes probed =
    let both = length-append (resistor_probes probed.resistors) (diode_probes probed.diodes) in
    let ohms = length-map probed.resistors ohms_event in
    let drops = length-diode_probes probed.diodes in
    omega arith

pub counted-probes : {s t : RigState} {es : List Event} {stop : Option RigStop} (n : ℕ) → length es ≡ n → All IsProbe es → Happens s t es stop
    → t.tallies ≡ probed_more n s.tallies
counted-probes {s} {t} {es} n many probes h =
    Happens-tallies h
    ∙ same-tallies (tally_all s.volts es) (more_probes (length es)) (tally-probes s.volts es probes) s.tallies
    ∙ ap (λ (k : ℕ). probed_more k s.tallies) many
