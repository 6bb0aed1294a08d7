use Rattle.std.proofs.Common.{◌∙◌, sym, codes, length}
use Rattle.httparse.specs.Spans.{IsHeaderWithin}
use Rattle.http_exchange.proofs.AskedLemmas.{find-All, posted-none, posted-one, posted-two, posted-length, posted-unsized}
use Rattle.http_exchange.proofs.head.posted.Goals as goal

pub returns-in_default : goal.returns-in_default
returns-in_default c = λ h are.
    c.refused.ensures
    ∙ posted-none c.args.submission (codes "content-length") c.args.bytes.now c.args.fields.now h (sym c.first_named.ensures ∙ c.in_default.is) are

pub returns-then-count_named-gt1 : goal.returns-then-count_named-gt1
returns-then-count_named-gt1 c = λ h are.
    let many = c.if-count_named-gt1.true in
    c.refused-then-count_named-gt1.ensures
    ∙ posted-two c.args.submission (codes "content-length") c.args.bytes.now c.args.fields.now h c.in-Some.first
    (sym c.first_named.ensures ∙ c.in-Some.is) (rw c.count_named.ensures at many) are

pub returns-in-Some-read_number : goal.returns-in-Some-read_number
returns-in-Some-read_number c = λ h are.
    let few = c.if-count_named-gt1.false in
    let word = rw c.of.ensures at c.in-Some-read_number.ensures.number in
    c.sized.ensures
    ∙ posted-length c.args.submission _ c.in-Some-read_number.length word
    ∙ posted-one c.args.submission (codes "content-length") c.args.bytes.now c.args.fields.now h c.in-Some.first
    (sym c.first_named.ensures ∙ c.in-Some.is) (rw c.count_named.ensures at few) are

pub returns-in-None : goal.returns-in-None
returns-in-None c = λ h are.
    let few = c.if-count_named-gt1.false in
    let none = rw c.of.ensures at c.in-None.ensures.none in
    c.refused-in-None.ensures
    ∙ posted-unsized c.args.submission _ none
    ∙ posted-one c.args.submission (codes "content-length") c.args.bytes.now c.args.fields.now h c.in-Some.first
    (sym c.first_named.ensures ∙ c.in-Some.is) (rw c.count_named.ensures at few) are

pub of-requires-clause-ordered : goal.of-requires-clause-ordered
of-requires-clause-ordered c =
    (find-All (IsHeaderWithin (length c.args.bytes.now)) _ c.args.fields.now c.in-Some.first c.requires (sym c.first_named.ensures ∙ c.in-Some.is)).1.0

pub of-requires-clause-in_range : goal.of-requires-clause-in_range
of-requires-clause-in_range c =
    (find-All (IsHeaderWithin (length c.args.bytes.now)) _ c.args.fields.now c.in-Some.first c.requires (sym c.first_named.ensures ∙ c.in-Some.is)).1.1
