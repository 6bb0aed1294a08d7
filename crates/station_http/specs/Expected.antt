-- What a request is replied, and the records behind it.
--     said_reply id said                            the reply to a command with this id
--     Expects findings p R now request reply after  the reply to a request, and the records behind it
use Rattle.std.specs.Prelude.{◌≡◌, ℕ, List, ◌++◌, codes, Option, Some, None}
use Rattle.wirelist.specs.declared.program.Program.{Program}
use Rattle.unit_outcome.specs.Found.{Findings}
use Rattle.records.specs.declared.record.StationRecord.{StationRecord}
use Rattle.serials.specs.Commands.{id_of}
use Rattle.report.specs.UnitText.{unit_text}
use Rattle.report.specs.LotText.{lot_text}
use Rattle.station.specs.AnswerText.{answer_line}
use Rattle.station.specs.Step.{Reply as Said, answered, not_at_zero, Step}
use Rattle.station.specs.declared.answer.Answer.{Answer}
use Rattle.station.specs.declared.answer.Answer.TheVariants as answer
use Rattle.station.specs.declared.answer.Refused.{Refused}
use Rattle.station.specs.declared.answer.Refused.TheVariants as refused
use Rattle.http_exchange.specs.declared.request.Refusal.TheVariants as refusal
use Rattle.http_exchange.specs.declared.request.Request.{Request}
use Rattle.http_exchange.specs.declared.request.Request.TheVariants as request
use Rattle.http_exchange.specs.declared.reply.AnswerKind.{AnswerKind}
use Rattle.http_exchange.specs.declared.reply.AnswerKind.TheVariants.{Done, Conflict, Gateway}
use Rattle.http_exchange.specs.Replies.{Reply, refusal_reply, report_reply, answer_reply}

-- a rule or a full journal is a conflict, and what the fixture comes to is its own fault
abbrev pub kind_refused : Refused → AnswerKind
kind_refused (refused.Rule r) = Conflict
kind_refused refused.Full = Conflict
kind_refused refused.Empty = Gateway
kind_refused refused.Door = Gateway
kind_refused (refused.Charged volts) = Gateway
kind_refused refused.RigFault = Gateway

-- how an answered command came out
abbrev pub kind_of : Answer → AnswerKind
kind_of (answer.Stored number v) = Done
kind_of (answer.Same number v) = Done
kind_of (answer.No why) = kind_refused why

-- the line that the source is not at zero
abbrev pub stuck_line : List ℕ → List ℕ
stuck_line id = codes "NO E21 " ++ id

-- the reply to a command: its answer line, or that the source is not at zero
abbrev pub said_reply : List ℕ → Said → Reply
said_reply id (answered a) = answer_reply (kind_of a) (answer_line a id)
said_reply id not_at_zero = answer_reply Gateway (stuck_line id)

-- a report, or that there is none
abbrev pub report_or_none : Option (List ℕ) → Reply
report_or_none None = refusal_reply refusal.NotFound
report_or_none (Some text) = report_reply text

-- the reply with the report of a unit
abbrev pub unit_reply : List StationRecord → List ℕ → Reply
unit_reply R serial = report_or_none (unit_text R serial)

-- The reply to a request, and the records behind it: a request that is cut gets none; only a command may add a record.
abbrev pub Expects : Findings → Program → List StationRecord → ℕ → Option Request → Option Reply → List StationRecord → Type 0
Expects findings p R now None reply after = (reply ≡ None) × (after ≡ R)
Expects findings p R now (Some (request.Refused why)) reply after = (reply ≡ Some (refusal_reply why)) × (after ≡ R)
Expects findings p R now (Some (request.Unit serial)) reply after = (reply ≡ Some (unit_reply R serial)) × (after ≡ R)
Expects findings p R now (Some request.Lot) reply after = (reply ≡ Some (report_reply (lot_text R))) × (after ≡ R)
Expects findings p R now (Some (request.Command c)) reply after =
    (said : Said) × Step findings p R c now said after × (reply ≡ Some (said_reply (id_of c) said))
