use Rattle.std.proofs.Common.{◌∙◌, ap, map, string_bytes}
use Rattle.clap.specs.Words.{found_of}
use Rattle.clap.specs.Matches.{first_value}
use Rattle.clap.specs.Simple.{is_simple, matches_of}
use Rattle.clap.specs.Takes.{takes}
use Rattle.words.proofs.Walks.{takes_command, value_of_matches}
use Rattle.words.proofs.Asking.{of_table, the_command}
use Rattle.words.proofs.reading.command_of.Goals as goal

pub returns-in-Ok : goal.returns-in-Ok
returns-in-Ok c =
    let app = c.in_ok-command.ensures in
    let words = map string_bytes c.args.words.now in
    let found = c.in-Ok.ensures.matches (ap is_simple app) in
    let rows = found.0 ∙ ap (λ a. matches_of a words) app in
    let r = c.requires in
    the_command words r.0 r.1 r.2 r.3 (first_value (found_of c.in-Ok.matches))
    (λ name other. value_of_matches words name (found_of c.in-Ok.matches) other rows r.0 r.2 (of_table c.args.verb r.0 r.1 r.3 r.4)) c.args.verb c.values_of.result r.4 c.values_of.ensures.some c.values_of.ensures.none

pub returns : goal.returns
returns c =
    let app = c.in_ok-command.ensures in
    let r = c.requires in
    let kind = c.in-Err.ensures.passes (ap (λ a. takes a (map string_bytes c.args.words.now)) app ∙ takes_command _ (r.0, r.2, of_table c.args.verb r.0 r.1 r.3 r.4)) in
    absurd (c.in_default.not-OutOfMemory (c.kind.ensures ∙ kind))
