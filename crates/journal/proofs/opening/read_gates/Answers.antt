use Rattle.std.proofs.Common.{◌≡◌, [], ◌∷◌, ◌++◌, length, refl, ◌∙◌, subst, arith}
use Rattle.std.proofs.lemmas.Grind.{common_steps}
use Rattle.journal.specs.Opening.{Stands}
use Rattle.journal.specs.Limits.{IsWithin}
use Rattle.journal.proofs.writing.Closing.{begins_in_order, begins_read, goes_on_read, goes_on_in_order, all_read, bad_read}
use Rattle.journal.proofs.opening.read_gates.Goals as goal

pub gates-init : goal.gates-init
gates-init g c = record {
  same = record { reads_as = refl; present = refl; past = refl; honest = refl };
  later = omega arith;
  within = omega (arith, c.requires.long);
  in_order = begins_in_order c.new-gates.result.items c.new-gates.ensures.items;
  reads = λ file told. begins_read file c.new-gates.result.items c.new-gates.ensures.items (c.requires.told file told).1;
}

pub gates-preserved : goal.gates-preserved
gates-preserved g c =
    let so_far = c.gates.invariant in
    let pushed : c.push.new.self.items ≡ c.gates.gates.items ++ c.gates.gate ∷ [] = grind (arith, common_steps) in
    let limits = subst (IsWithin c.gates.gate c.args.len) c.in-Whole.is c.in_ok-read.ensures.limits in
    record {
      same = record {
        reads_as = c.read.ensures.same.reads_as ∙ so_far.same.reads_as;
        present = c.read.ensures.same.present ∙ so_far.same.present;
        past = c.read.ensures.same.past ∙ so_far.same.past;
        honest = c.read.ensures.same.honest ∙ so_far.same.honest;
      };
      later = omega (arith, so_far.later, c.read.ensures.cause.later);
      within = limits.2;
      in_order = goes_on_in_order c.gates.gates.items c.push.new.self.items c.gates.gate c.in-Whole.next c.args.len pushed so_far.in_order limits.0 limits.1 limits.2 c.requires.limit;
      reads = λ file told.
          let stands = c.in_ok-read.ensures.stands file (so_far.same.reads_as ∙ told) in
          goes_on_read file c.gates.gates.items c.push.new.self.items c.gates.gate c.in-Whole.next pushed (so_far.reads file told) (subst (Stands _ c.gates.gate) c.in-Whole.is stands);
    }

pub returns-in-Closed-clause-gates : goal.returns-in-Closed-clause-gates
returns-in-Closed-clause-gates g c file told =
    let so_far = c.gates.invariant in
    let pushed : c.push.new.self.items ≡ c.gates.gates.items ++ c.gates.gate ∷ [] = grind (arith, common_steps) in
    let stands = c.in_ok-read.ensures.stands file (so_far.same.reads_as ∙ told) in
    all_read file c.gates.gates.items c.push.new.self.items c.gates.gate pushed (so_far.reads file told) (subst (Stands _ c.gates.gate) c.in-Closed.is stands)

pub returns-in-Cut-clause-refused : goal.returns-in-Cut-clause-refused
returns-in-Cut-clause-refused g c file told =
    let so_far = c.gates.invariant in
    let pushed : c.push.new.self.items ≡ c.gates.gates.items ++ c.gates.gate ∷ [] = grind (arith, common_steps) in
    let stands = c.in_ok-read.ensures.stands file (so_far.same.reads_as ∙ told) in
    let number : c.len.result ≡ length c.push.new.self.items = grind (arith, common_steps) in
    bad_read file c.gates.gates.items c.push.new.self.items c.gates.gate c.len.result (omega (arith, c.requires.long, (c.requires.told file told).0)) (omega (arith, c.requires.limit, (c.requires.told file told).0)) pushed (so_far.reads file told) (subst (Stands _ c.gates.gate) c.in-Cut.is stands) number
