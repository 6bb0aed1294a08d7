-- Serving in order, where the door and the output are told.
--     ServedInTurn findings p R moments connections after m'     each is its reply, by the records that the one before it left
--     ServesInOrder ..                                           the finished connections, their lines, and how the serving ended
use Rattle.std.specs.Prelude.{◌≡◌, ◌⊎◌, ℕ, ◌+◌, ◌<◌, ◌≤◌, List, [], ◌∷◌, ◌++◌, length, map, Option, Some, None, option_to_list}
use Rattle.door_edge.specs.Doors.{Talk}
use Rattle.disk_edge.specs.Disk.{EachImage}
use Rattle.wirelist.specs.declared.program.Program.{Program}
use Rattle.unit_outcome.specs.Found.{Findings}
use Rattle.records.specs.declared.record.StationRecord.{StationRecord}
use Rattle.ledger.specs.Kept.{IsImageOfEither}
use Rattle.script.specs.Growth.{IsPrefix}
use Rattle.station_http.specs.ItsReply.{PassesMoment, talk_of, IsItsReply, IsLastReply}
use Rattle.serving.specs.Lines.{conn_line, Closing, status_of, closing_line}
use Rattle.serving.specs.Visits.{Stage, Left}

-- ---- connections

-- a connection that was finished: the bytes that it had to say, what it was at the end, and the status of its reply
pub record Connection : Type 0 where
  pub bytes : List ℕ
  pub went : Talk
  pub status : Option ℕ

-- as it came: nothing was written to it, and it never failed
abbrev pub as_it_came : List ℕ → Talk
as_it_came bytes = talk_of (Some bytes) (Some []) 0 0

-- a connection is its reply, by these records
abbrev pub IsReplied : Findings → Program → List StationRecord → Option (List ℕ) → Connection → List StationRecord → Type 0
IsReplied findings p R moments c after = IsItsReply findings p R moments c.bytes (as_it_came c.bytes) c.went c.status after

-- Each is its reply, by the records that the one before it left. A clock that tells goes on by one moment at most with each.
abbrev pub ServedInTurn : Findings → Program → List StationRecord → Option (List ℕ) → List Connection → List StationRecord → Option (List ℕ) → Type 0
ServedInTurn findings p R moments [] after moments' = (after ≡ R) × (moments' ≡ moments)
ServedInTurn findings p R moments (c ∷ more) after moments' =
    (next : List StationRecord) × (late : Option (List ℕ)) × IsReplied findings p R moments c next × PassesMoment moments late
    × ServedInTurn findings p next late more after moments'

-- ---- lines

-- the lines of the connections, from this number on
abbrev pub conn_lines : ℕ → List Connection → List ℕ
conn_lines number [] = []
conn_lines number (c ∷ more) = conn_line number c.status ++ conn_lines (number + 1) more

-- a front of the closing line of a status; with 0 nothing is closed
abbrev pub IsClosing : ℕ → List ℕ → Type 0
IsClosing status rest = ((status ≡ 0) × (rest ≡ [])) ⊎ ((closing : Closing) × (status ≡ status_of closing) × IsPrefix rest (closing_line closing))

-- ---- the end

-- a connection was served, and a front of its line was written, since a write failed or memory ran out
pub record IsUntold (findings : Findings) (p : Program) (R : List StationRecord) (moments : Option (List ℕ)) (number : ℕ)
    (c : Connection) (later : List StationRecord) (status : ℕ) (rest : List ℕ) : Type 0 where
  pub is : IsReplied findings p R moments c later
  pub line : IsPrefix rest (conn_line number c.status)
  pub status_is : (status ≡ 7) ⊎ (status ≡ 9)

-- the station stopped with a connection, and a front of the closing line was written
pub record IsTheLast (findings : Findings) (p : Program) (R : List StationRecord) (moments : Option (List ℕ))
    (c : Connection) (later : List StationRecord) (status : ℕ) (rest : List ℕ) : Type 0 where
  pub is : IsLastReply findings p R moments c.bytes (as_it_came c.bytes) c.went later
  pub no_status : c.status ≡ None
  pub line : IsClosing status rest
  pub status_is : (status ≡ 8) ⊎ (status ≡ 9) ⊎ (status ≡ 10)

-- Behind the connections that were told: none; one that was served and not told; or one with which the station stopped. `later` are the
-- records behind it, or those that are due to it.
abbrev pub EndsBehind : Findings → Program → List StationRecord → Option (List ℕ) → ℕ → Option Connection → List StationRecord → ℕ → List ℕ → Type 0
EndsBehind findings p R moments number None later status rest = (later ≡ R) × IsClosing status rest
EndsBehind findings p R moments number (Some c) later status rest =
    IsUntold findings p R moments number c later status rest ⊎ IsTheLast findings p R moments c later status rest

-- ---- the whole

-- The finished connections are the first that waited, in order: those that were served and told, and perhaps one more. The text that was
-- written is their lines, and behind them a front of the line of that one, or of the closing line.
--     all      with status 0 so many connections were served and told, and nothing was written behind their lines
--     fewer    with 11 fewer were finished
--     few      and never more
pub record ServesInOrder (findings : Findings) (p : Program) (R : List StationRecord) (moments : Option (List ℕ)) (count : ℕ) (waiting still : List (List ℕ))
    (finished : List Talk) (text : List ℕ) (status : ℕ) : Type 0 where
  pub told : List Connection
  pub records : List StationRecord
  pub late : Option (List ℕ)
  pub in_turn : ServedInTurn findings p R moments told records late
  pub last : Option Connection
  pub later : List StationRecord
  pub rest : List ℕ
  pub ends : EndsBehind findings p records late (length told + 1) last later status rest
  pub order : waiting ≡ map (λ (c : Connection). c.bytes) (told ++ option_to_list last) ++ still
  pub finished_are : finished ≡ map (λ (c : Connection). c.went) (told ++ option_to_list last)
  pub lines : text ≡ conn_lines 1 told ++ rest
  pub all : status ≡ 0 → (last ≡ None) × (length told ≡ count) × (rest ≡ [])
  pub fewer : status ≡ 11 → (last ≡ None) × (length told < count)
  pub few : length told + length (option_to_list last) ≤ count

-- What the door still has waiting, what it has finished besides, and what was written besides. Each image of the disk keeps the records
-- behind the connections that were told, or those behind one more.
pub record ServedAtDoor (findings : Findings) (first : Stage) (count : ℕ)
    (waiting : List (List ℕ)) (done : List Talk) (got : List ℕ) (status : ℕ) (left : Left) : Type 0 where
  pub still : List (List ℕ)
  pub finished : List Talk
  pub text : List ℕ
  pub waiting_is : left.waiting ≡ Some still
  pub done_is : left.done ≡ Some (done ++ finished)
  pub got_is : left.got ≡ Some (got ++ text)
  pub serves : ServesInOrder findings first.station.program first.station.records first.moments count waiting still finished text status
  pub kept : EachImage left.disk (IsImageOfEither serves.records serves.later)

-- It is said where the door and the output are told.
abbrev pub ServesTold : Findings → Stage → ℕ → ℕ → Left → Type 0
ServesTold findings first count status left =
    (waiting : List (List ℕ)) (done : List Talk) (got : List ℕ) → first.waiting ≡ Some waiting → first.done ≡ Some done → first.got ≡ Some got
    → ServedAtDoor findings first count waiting done got status left
