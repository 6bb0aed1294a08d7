use Rattle.std.proofs.Common.{◌∙◌, sym, ap}
use Rattle.matchit.specs.Seek.{first}
use Rattle.http_exchange.proofs.FindsPages.{the_value, are-bytes, first-page}
use Rattle.http_exchange.proofs.route.find.Goals as goal

pub returns-in-Ok : goal.returns-in-Ok
returns-in-Ok c =
    let same = sym (ap (λ routes. the_value (first routes c.args.path.now)) c.requires) in
    ap the_value (sym c.in-Ok.ensures.found) ∙ sym same ∙ first-page c.args.path.now (are-bytes c.args.path.now c.type_inv.path)

pub returns-in-Err : goal.returns-in-Err
returns-in-Err c =
    let same = sym (ap (λ routes. the_value (first routes c.args.path.now)) c.requires) in
    ap the_value (sym c.in-Err.ensures.missing) ∙ sym same ∙ first-page c.args.path.now (are-bytes c.args.path.now c.type_inv.path)
