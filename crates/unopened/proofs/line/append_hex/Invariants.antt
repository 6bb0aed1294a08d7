use Rattle.std.proofs.Common.{◌≡◌, ◌++◌, take}
use Rattle.unopened.specs.Refused.{hex_text}
use Rattle.unopened.proofs.line.append_hex.Given as goal

abbrev pub invariant-loop-byte : goal.invariant-loop-byte
invariant-loop-byte l = l.line ≡ l.fn.line ++ hex_text (take l.byte-index l.bytes)
