use Rattle.std.proofs.Common.{◌≡◌, ℕ, length, inr, arith, ap, map, sym, ◌∙◌, subst, Some, None}
use Rattle.std.proofs.lemmas.Result.{err_from_is_err_and}
use Rattle.partition.specs.Classes.{points_below}
use Rattle.partition.specs.NetFaults.{ascending_net, first_fault}
use Rattle.partition.specs.Claims.{owned_by}
use Rattle.partition.specs.declared.nets.NetsRefusal.TheVariants.{NoneJudged}
use Rattle.partition.proofs.tables.IgnoredLemmas.{claimed_is, fault_is, lists_few, none_first, no_fault}
use Rattle.partition.proofs.tables.KeptLemmas.{unclaimed, named_is, ignored_is, kept}
use Rattle.partition.proofs.nets.number_all.Goals as goal

pub claim_all-requires-clause-free : goal.claim_all-requires-clause-free
claim_all-requires-clause-free c = unclaimed c.push.new.self (length c.args.numbers.now) c.args.numbers.now c.requires.free

pub returns-in_err-claim_all-clause-refused : goal.returns-in_err-claim_all-clause-refused
returns-in_err-claim_all-clause-refused c =
    let found = fault_is c.args.lists c.args.ignored c.args.numbers.now c.push.new.self c.len-nets.result c.in_ok-push.ensures.ok c.len-nets.ensures (length c.args.numbers.now) c.in_err-claim_all.field-0.0 c.in_err-claim_all.ensures.err in
    let p = err_from_is_err_and c.from_residual-in_err-claim_all.result c.from_residual-in_err-claim_all.ensures.1 in rw (p.1, p.2) (inr found)

pub grouped-requires-clause-few : goal.grouped-requires-clause-few
grouped-requires-clause-few c =
    let size = c.claim_all.auto.owners in
    let small = c.requires.small in
    let place = c.len-nets.ensures in
    let ok = claimed_is c.args.lists c.args.ignored c.claim_all.new.owners c.push.new.self c.len-nets.result c.in_ok-push.ensures.ok c.len-nets.ensures (omega arith) c.in_ok-claim_all.ensures.ok in
    omega (arith, lists_few c.args.lists c.args.ignored c.claim_all.new.owners ok)

pub overflow_cast-nets : goal.overflow_cast-nets
overflow_cast-nets c =
    let size = c.claim_all.auto.owners in
    let small = c.requires.small in
    let place = c.len-nets.ensures in
    let ok = claimed_is c.args.lists c.args.ignored c.claim_all.new.owners c.push.new.self c.len-nets.result c.in_ok-push.ensures.ok c.len-nets.ensures (omega arith) c.in_ok-claim_all.ensures.ok in
    omega (arith, lists_few c.args.lists c.args.ignored c.claim_all.new.owners ok)

pub returns-then-len-numbers-clause-refused : goal.returns-then-len-numbers-clause-refused
returns-then-len-numbers-clause-refused c =
    let size = c.claim_all.auto.owners in
    let small = c.requires.small in
    let ok = claimed_is c.args.lists c.args.ignored c.claim_all.new.owners c.push.new.self c.len-nets.result c.in_ok-push.ensures.ok c.len-nets.ensures (omega arith) c.in_ok-claim_all.ensures.ok in
    let others : c.in_ok-ignored.ignored ≡ ascending_net (length c.claim_all.new.owners) c.args.ignored =
    c.in_ok-ignored.ensures ∙ ap (owned_by c.claim_all.new.owners) c.len-nets.ensures ∙ ignored_is c.args.lists c.args.ignored c.claim_all.new.owners ok in
    let every : length (ascending_net (length c.claim_all.new.owners) c.args.ignored) ≡ length c.claim_all.new.owners = sym (ap length others) ∙ sym c.len.ensures ∙ c.if-len-numbers.true in
    inr (subst (λ (n : ℕ). first_fault n c.args.lists c.args.ignored ≡ Some NoneJudged) size (none_first (length c.claim_all.new.owners) c.args.lists c.args.ignored ok.faultless every))

pub number_alone-requires-clause-few : goal.number_alone-requires-clause-few
number_alone-requires-clause-few c =
    let size = c.claim_all.auto.owners in
    let small = c.requires.small in
    let place = c.len-nets.ensures in
    let ok = claimed_is c.args.lists c.args.ignored c.claim_all.new.owners c.push.new.self c.len-nets.result c.in_ok-push.ensures.ok c.len-nets.ensures (omega arith) c.in_ok-claim_all.ensures.ok in
    omega (arith, lists_few c.args.lists c.args.ignored c.claim_all.new.owners ok)

pub returns-clause-kept : goal.returns-clause-kept
returns-clause-kept c =
    let size = c.claim_all.auto.owners in
    let size_2 = c.number_alone.auto.owners in
    let small = c.requires.small in
    let ok = claimed_is c.args.lists c.args.ignored c.claim_all.new.owners c.push.new.self c.len-nets.result c.in_ok-push.ensures.ok c.len-nets.ensures (omega arith) c.in_ok-claim_all.ensures.ok in
    let named : c.in_ok-named.named ≡ map (ascending_net (length c.claim_all.new.owners)) c.args.lists =
    c.in_ok-named.ensures ∙ ap (λ (m : ℕ). map (owned_by c.claim_all.new.owners) (points_below m)) c.len-nets.ensures ∙ named_is c.args.lists c.args.ignored c.claim_all.new.owners ok in
    let others : c.in_ok-ignored.ignored ≡ ascending_net (length c.claim_all.new.owners) c.args.ignored =
    c.in_ok-ignored.ensures ∙ ap (owned_by c.claim_all.new.owners) c.len-nets.ensures ∙ ignored_is c.args.lists c.args.ignored c.claim_all.new.owners ok in
    kept c.args.lists c.args.ignored c.claim_all.new.owners ok c.in_ok-named.named c.in_ok-ignored.ignored (length c.args.numbers.now) c.len-nets.result c.in_ok-alone.alone c.number_alone.new.owners
    named others size c.len-nets.ensures (λ e. c.if-len-numbers.false (c.len.ensures ∙ e ∙ sym size)) c.in_ok-alone.ensures.numbers c.in_ok-alone.ensures.alone (omega arith)

pub returns-clause-named : goal.returns-clause-named
returns-clause-named c =
    let size = c.claim_all.auto.owners in
    let small = c.requires.small in
    let ok = claimed_is c.args.lists c.args.ignored c.claim_all.new.owners c.push.new.self c.len-nets.result c.in_ok-push.ensures.ok c.len-nets.ensures (omega arith) c.in_ok-claim_all.ensures.ok in
    c.in_ok-named.ensures
    ∙ ap (λ (m : ℕ). map (owned_by c.claim_all.new.owners) (points_below m)) c.len-nets.ensures
    ∙ named_is c.args.lists c.args.ignored c.claim_all.new.owners ok
    ∙ ap (λ (n : ℕ). map (ascending_net n) c.args.lists) size

pub returns-clause-ignored : goal.returns-clause-ignored
returns-clause-ignored c =
    let size = c.claim_all.auto.owners in
    let small = c.requires.small in
    let ok = claimed_is c.args.lists c.args.ignored c.claim_all.new.owners c.push.new.self c.len-nets.result c.in_ok-push.ensures.ok c.len-nets.ensures (omega arith) c.in_ok-claim_all.ensures.ok in
    c.in_ok-ignored.ensures
    ∙ ap (owned_by c.claim_all.new.owners) c.len-nets.ensures
    ∙ ignored_is c.args.lists c.args.ignored c.claim_all.new.owners ok
    ∙ ap (λ (n : ℕ). ascending_net n c.args.ignored) size

pub returns-clause-faultless : goal.returns-clause-faultless
returns-clause-faultless c =
    let size = c.claim_all.auto.owners in
    let small = c.requires.small in
    let ok = claimed_is c.args.lists c.args.ignored c.claim_all.new.owners c.push.new.self c.len-nets.result c.in_ok-push.ensures.ok c.len-nets.ensures (omega arith) c.in_ok-claim_all.ensures.ok in
    let others : c.in_ok-ignored.ignored ≡ ascending_net (length c.claim_all.new.owners) c.args.ignored =
    c.in_ok-ignored.ensures ∙ ap (owned_by c.claim_all.new.owners) c.len-nets.ensures ∙ ignored_is c.args.lists c.args.ignored c.claim_all.new.owners ok in
    subst (λ (n : ℕ). first_fault n c.args.lists c.args.ignored ≡ None) size
    (no_fault (length c.claim_all.new.owners) c.args.lists c.args.ignored ok.faultless (λ e. c.if-len-numbers.false (c.len.ensures ∙ ap length others ∙ e)))
