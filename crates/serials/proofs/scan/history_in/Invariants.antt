use Rattle.std.proofs.Common.{◌≡◌, take}
use Rattle.serials.specs.Facts.{history}
use Rattle.serials.proofs.scan.history_in.Given as goal

abbrev pub invariant-loop-place : goal.invariant-loop-place
invariant-loop-place l = l.facts ≡ history (take l.place l.records) l.serial
