use Rattle.std.proofs.Common.{◌≡◌, true, false, inl, inr, ◌∙◌, arith}
use Rattle.std.proofs.lemmas.Grind.{common_steps}
use Rattle.journal.proofs.wholes.Opened.{closed_at, cut_short, cut_long, whole}
use Rattle.journal.proofs.opening.Behind.read.Goals as goal
use Rattle.journal.proofs.opening.Behind.read.Goals.{then-size-gt-LONGEST_BODY-via-then-size-gt-LONGEST_BODY, then-size-gt-LONGEST_BODY-via-else-size-gt-LONGEST_BODY+then-len-gate}

pub returns-then-not-is_open-clause-stands : goal.returns-then-not-is_open-clause-stands
returns-then-not-is_open-clause-stands g c file told =
    let shut : c.in_ok-is_open.is_open ≡ false = grind (arith, common_steps) in
    closed_at file c.args.gate (λ here. let yes = (c.in_ok-is_open.ensures.gate file told).1 here in cc)

pub returns-then-len-gate-lt5-clause-stands : goal.returns-then-len-gate-lt5-clause-stands
returns-then-len-gate-lt5-clause-stands g c file told =
    let here : c.in_ok-is_open.is_open ≡ true = grind (arith, common_steps) in
    let is_open = (c.in_ok-is_open.ensures.gate file told).0 here in
    cut_short file c.args.gate is_open.0 is_open.1 (omega (arith, c.requires.told file told))

pub returns-then-size-gt-LONGEST_BODY-clause-stands : goal.returns-then-size-gt-LONGEST_BODY-clause-stands
returns-then-size-gt-LONGEST_BODY-clause-stands g c file told =
    let here : c.in_ok-is_open.is_open ≡ true = grind (arith, common_steps) in
    let is_open = (c.in_ok-is_open.ensures.gate file told).0 here in
    let is = c.in_ok-size.ensures.value file (c.is_open.ensures.same.reads_as ∙ told) in
    cut_long file c.args.gate c.in_ok-size.size is_open.0 is_open.1 (omega (arith, c.requires.told file told)) is (elim c.then-size-gt-LONGEST_BODY.branch [
      | then-size-gt-LONGEST_BODY-via-then-size-gt-LONGEST_BODY w ↦ inl w.if-size-gt-LONGEST_BODY.true
      | then-size-gt-LONGEST_BODY-via-else-size-gt-LONGEST_BODY+then-len-gate w ↦ inr (omega (arith, c.requires.told file told))
    ])

pub returns-clause-stands : goal.returns-clause-stands
returns-clause-stands g c file told =
    let here : c.in_ok-is_open.is_open ≡ true = grind (arith, common_steps) in
    let is_open = (c.in_ok-is_open.ensures.gate file told).0 here in
    let is = c.in_ok-size.ensures.value file (c.is_open.ensures.same.reads_as ∙ told) in
    whole file c.args.gate c.in_ok-size.size is_open.0 is_open.1 is (omega arith) (omega (arith, c.requires.told file told)) (omega (arith, c.requires.told file told))
