use Rattle.std.proofs.Common.{◌≡◌, ◌∙◌, sym, ap}
use Rattle.http_exchange.specs.declared.page.Verb.{Verb}
use Rattle.http_exchange.specs.declared.request.Refusal.TheVariants as refusal
use Rattle.http_exchange.specs.Routes.{path_of, verb_of, verb_name}
use Rattle.http_exchange.specs.Requests.{refused}
use Rattle.http_exchange.proofs.AskedLemmas.{some-is, none-is, asked-coded, asked-routed, routed-nowhere, routed-otherwise, routed-there}
use Rattle.http_exchange.proofs.head.asked_at.Goals as goal

pub returns-then-is_some : goal.returns-then-is_some
returns-then-is_some c = λ h parts.
    let (f, some) = some-is _ (sym c.is_some.ensures ∙ c.if-is_some.true) in
    c.refused.ensures ∙ asked-coded c.args.bytes.now c.args.fields.now h f (sym c.first_named.ensures ∙ some) parts.fields_are

pub returns-in_default : goal.returns-in_default
returns-in_default c = λ h parts.
    let uncoded = sym c.first_named.ensures ∙ none-is _ (sym c.is_some.ensures ∙ c.if-is_some.false) in
    let path = c.path_of-path.ensures ∙ ap path_of (c.in-Ok.ensures.cases.0 ∙ c.of.ensures ∙ parts.target) in
    c.refused-in_default.ensures
    ∙ routed-nowhere h c.path_of-path.result.now path (sym c.in_ok-page.ensures ∙ c.in_default.is)
    ∙ asked-routed c.args.bytes.now c.args.fields.now h uncoded parts.fields_are

pub returns-then-not-is_verb : goal.returns-then-not-is_verb
returns-then-not-is_verb c = λ h parts.
    let uncoded = sym c.first_named.ensures ∙ none-is _ (sym c.is_some.ensures ∙ c.if-is_some.false) in
    let path = c.path_of-path.ensures ∙ ap path_of (c.in-Ok.ensures.cases.0 ∙ c.of.ensures ∙ parts.target) in
    let page = sym c.in_ok-page.ensures ∙ c.in-Some.is in
    let no = c.if-not-is_verb.true in
    let other : c.of-2.result.now ≡ verb_name (verb_of c.in-Some.page) → ⊥ =
    λ same. let yes = c.is_verb.ensures.1 (same ∙ ap verb_name (sym c.verb.ensures)) in cc in
    let refuses : c.refused-then-not-is_verb.result ≡ refused (refusal.Method (verb_of c.in-Some.page)) =
    c.refused-then-not-is_verb.ensures ∙ ap (λ (v : Verb). refused (refusal.Method v)) c.verb-then-not-is_verb.ensures in
    refuses
    ∙ routed-otherwise h c.path_of-path.result.now c.of-2.result.now c.in-Some.page path (c.of-2.ensures ∙ parts.method) page other
    ∙ asked-routed c.args.bytes.now c.args.fields.now h uncoded parts.fields_are

pub returns : goal.returns
returns c = λ h parts.
    let uncoded = sym c.first_named.ensures ∙ none-is _ (sym c.is_some.ensures ∙ c.if-is_some.false) in
    let path = c.path_of-path.ensures ∙ ap path_of (c.in-Ok.ensures.cases.0 ∙ c.of.ensures ∙ parts.target) in
    let page = sym c.in_ok-page.ensures ∙ c.in-Some.is in
    let yes = c.if-not-is_verb.false in
    let own : c.of-2.result.now ≡ verb_name (verb_of c.in-Some.page) = c.is_verb.ensures.0 yes ∙ ap verb_name c.verb.ensures in
    c.page_asked.ensures h path parts.fields_are
    ∙ routed-there h c.path_of-path.result.now c.of-2.result.now c.in-Some.page path (c.of-2.ensures ∙ parts.method) page own
    ∙ asked-routed c.args.bytes.now c.args.fields.now h uncoded parts.fields_are
