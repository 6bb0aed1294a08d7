use Rattle.std.proofs.Common.{◌≡◌, ◌∙◌, ap, ap₂}
use Rattle.clap.specs.Words.{app_of, with_rule}
use Rattle.clap.specs.Simple.{app_of_fields}
use Rattle.words.specs.Table.{with_no_help, with_no_name}
use Rattle.words.proofs.reading.the_command.Goals as goal

pub returns : goal.returns
returns c =
    let name = c.in_ok-arg.ensures.shape c.command_arg.ensures.local ∙ ap₂ with_rule c.new.ensures.app c.command_arg.ensures.rule in
    let serial = c.in_ok-arg-2.ensures.shape c.option_arg.ensures.local ∙ ap₂ with_rule name c.option_arg.ensures.rule in
    let attempt = c.in_ok-arg-3.ensures.shape c.option_arg-2.ensures.local ∙ ap₂ with_rule serial c.option_arg-2.ensures.rule in
    let port = c.in_ok-arg-4.ensures.shape c.option_arg-3.ensures.local ∙ ap₂ with_rule attempt c.option_arg-3.ensures.rule in
    let count = c.in_ok-arg-5.ensures.shape c.option_arg-4.ensures.local ∙ ap₂ with_rule port c.option_arg-4.ensures.rule in
    let size = c.in_ok-command.ensures.shape c.option_arg-5.ensures.local ∙ ap₂ with_rule count c.option_arg-5.ensures.rule in
    let named : app_of c.no_binary_name.result ≡ with_no_name (app_of c.in_ok-command.command) = ap app_of_fields c.no_binary_name.ensures in
    let plain : app_of c.disable_help_flag.result ≡ with_no_help (app_of c.no_binary_name.result) = ap app_of_fields c.disable_help_flag.ensures in
    plain ∙ ap with_no_help (named ∙ ap with_no_name size)
