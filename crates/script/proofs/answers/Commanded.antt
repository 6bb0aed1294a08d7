-- Commands that are read are in range.
use Rattle.std.proofs.Common.{◌≡◌, ℕ, Bool, true, false, List, [], ◌∷◌, Option, Some, None, refl}
use Rattle.std.specs.Prelude.{◌&&◌, codes, bytes_eq, if◌then◌else◌, option_map, IfSome}
use Rattle.partition.specs.Names.{is_name}
use Rattle.lines.specs.Words.{words_of}
use Rattle.records.specs.RecordRanges.{IsDay}
use Rattle.serials.specs.Dates.{read_date}
use Rattle.serials.specs.declared.command.Command.{Command}
use Rattle.serials.specs.declared.command.Command.TheVariants.{Adopt, Enrol, Calibrate, Mark, Test, Rework, Release, Scrap}
use Rattle.serials.specs.Commands.{read_alone, read_of_serial, read_with, read_staffed, command_of, read_command}
use Rattle.serials.proofs.ReadDates.{dates_read}
use Rattle.station.specs.Commands.{IsAsked}

either : (b : Bool) (x y : Option Command) → IfSome x IsAsked → IfSome y IsAsked → IfSome (if b then x else y) IsAsked
either true x y first second = first
either false x y first second = second

alone : (word id : List ℕ) → IfSome (read_alone word id) IsAsked
alone word id =
    either (bytes_eq word (codes "adopt")) (Some (Adopt id)) (if bytes_eq word (codes "mark") then Some (Mark id) else None) tt
    (either (bytes_eq word (codes "mark")) (Some (Mark id)) None tt tt)

of_serial : (word id serial : List ℕ) → IfSome (read_of_serial word id serial) IsAsked
of_serial word id serial =
    let scrap = either (bytes_eq word (codes "scrap")) (Some (Scrap id serial)) None tt tt in
    let release = either (bytes_eq word (codes "release")) (Some (Release id serial)) (if bytes_eq word (codes "scrap") then Some (Scrap id serial) else None) tt scrap in
    let rework = either (bytes_eq word (codes "rework")) (Some (Rework id serial)) (if bytes_eq word (codes "release") then Some (Release id serial) else if bytes_eq word (codes "scrap") then Some (Scrap id serial) else None) tt release in
    let test = either (bytes_eq word (codes "test")) (Some (Test id serial None)) (if bytes_eq word (codes "rework") then Some (Rework id serial) else if bytes_eq word (codes "release") then Some (Release id serial) else if bytes_eq word (codes "scrap") then Some (Scrap id serial) else None) tt rework in
    either (bytes_eq word (codes "enrol")) (Some (Enrol id serial)) (if bytes_eq word (codes "test") then Some (Test id serial None) else if bytes_eq word (codes "rework") then Some (Rework id serial) else if bytes_eq word (codes "release") then Some (Release id serial) else if bytes_eq word (codes "scrap") then Some (Scrap id serial) else None) tt test

calibrates : (id : List ℕ) (o : Option ℕ) → ((day : ℕ) → o ≡ Some day → IsDay day) → IfSome (option_map (λ day. Calibrate id day) o) IsAsked
calibrates id None is_day = tt
calibrates id (Some day) is_day = is_day day refl

with_last : (word id last : List ℕ) → IfSome (read_with word id last) IsAsked
with_last word id last =
    either (bytes_eq word (codes "calibrate")) (option_map (λ day. Calibrate id day) (read_date last)) (if is_name last then read_of_serial word id last else None)
    (calibrates id (read_date last) (λ day is. ((dates_read last day).0 is).0))
    (either (is_name last) (read_of_serial word id last) None (of_serial word id last) tt)

staffed : (word id serial operator fixture : List ℕ) → IfSome (read_staffed word id serial operator fixture) IsAsked
staffed word id serial operator fixture =
    either (bytes_eq word (codes "test") && (is_name serial && (is_name operator && is_name fixture))) (Some (Test id serial (Some (record { operator = operator; fixture = fixture })))) None tt tt

of_words : (words : List (List ℕ)) → IfSome (command_of words) IsAsked
of_words [] = tt
of_words (word ∷ []) = tt
of_words (word ∷ id ∷ []) = either (is_name id) (read_alone word id) None (alone word id) tt
of_words (word ∷ id ∷ last ∷ []) = either (is_name id) (read_with word id last) None (with_last word id last) tt
of_words (word ∷ id ∷ serial ∷ operator ∷ []) = tt
of_words (word ∷ id ∷ serial ∷ operator ∷ fixture ∷ []) = either (is_name id) (read_staffed word id serial operator fixture) None (staffed word id serial operator fixture) tt
of_words (word ∷ id ∷ serial ∷ operator ∷ fixture ∷ more ∷ words) = tt

pub asked_in_range : (line : List ℕ) → IfSome (read_command line) IsAsked
unfolding read_command
asked_in_range line = of_words (words_of line)
