-- What a request led to is what is due, over plain variables.
use Rattle.std.proofs.Common.{◌≡◌, ⊎_elim, inl, inr, ◌∙◌, sym, refl, ap, subst, append-nil, ℕ, List, ◌++◌, Option, Some, None}
use Rattle.std.specs.Prelude.{IfSome}
use Rattle.bench_edge.specs.Clocks.{Ticks, first_moment}
use Rattle.disk_edge.specs.Disk.{DiskState, LeavesOnly, EachImage}
use Rattle.disk_edge.proofs.Moments.{none_images, each_after}
use Rattle.unit_outcome.specs.Found.{Findings}
use Rattle.records.specs.declared.record.StationRecord.{StationRecord}
use Rattle.ledger.specs.Kept.{IsImageOf, IsImageOfEither}
use Rattle.serials.specs.declared.command.Command.{Command}
use Rattle.serials.specs.Commands.{id_of}
use Rattle.station.specs.Ended.{End, replied, stuck, lost, Ends}
use Rattle.station.specs.Step.{Reply as Said, answered, not_at_zero, Step}
use Rattle.station.specs.View.{StationState}
use Rattle.http_exchange.specs.declared.request.Request.{Request}
use Rattle.http_exchange.specs.declared.request.Request.TheVariants as asks
use Rattle.http_exchange.specs.Reading.{TakesRequest}
use Rattle.http_exchange.specs.Replies.{Reply}
use Rattle.http_exchange.specs.Requests.{Asks}
use Rattle.station_http.specs.Commanded.{IsStep}
use Rattle.station_http.specs.Expected.{said_reply, Expects}
use Rattle.station_http.specs.ItsReply.{IsNow, PassesMoment, Due, ByFindings}
use Rattle.station_http.specs.Turns.{LeavesAlone, Answers, GoesOnWith}

-- ---- the bytes

some_asks : (bytes : List ℕ) (left' : Option (List ℕ)) (r : Option Request) → TakesRequest (Some bytes) left' r → Asks bytes r
some_asks bytes None r takes = absurd takes.consumed
some_asks bytes (Some rest) (Some r) takes = subst (λ (l : List ℕ). Asks l (Some r)) (sym takes.consumed) (takes.asks rest)
some_asks bytes (Some rest) None takes =
    let all : bytes ≡ takes.taken = takes.consumed ∙ ap (λ (l : List ℕ). takes.taken ++ l) takes.asks.0 ∙ append-nil takes.taken in
    subst (λ (l : List ℕ). Asks l None) (sym all) takes.asks.1

-- what was taken off a connection is what its bytes ask
pub taken_asks : (left left' : Option (List ℕ)) (bytes : List ℕ) (r : Option Request) → left ≡ Some bytes → TakesRequest left left' r → Asks bytes r
taken_asks left left' bytes r is takes = some_asks bytes left' r (subst (λ (l : Option (List ℕ)). TakesRequest l left' r) is takes)

pub where_told : {A : Type 0} (o : Option A) (P : A → Type 0) → ((x : A) → o ≡ Some x → P x) → IfSome o P
where_told None P holds = tt
where_told (Some x) P holds = holds x refl

-- ---- the clock

-- the moment that a clock tells, or 0
abbrev pub moment_of : Option (List ℕ) → ℕ
moment_of None = 0
moment_of (Some told) = first_moment told

pub tells_moment : (moments : Option (List ℕ)) → IsNow moments (moment_of moments)
tells_moment None = tt
tells_moment (Some told) = refl

ticks_now : (moments moments' : Option (List ℕ)) (now : ℕ) → Ticks moments moments' now → IsNow moments now
ticks_now None moments' now ticks = tt
ticks_now (Some told) moments' now ticks = ticks.0

ticks_pass : (moments moments' : Option (List ℕ)) (now : ℕ) → Ticks moments moments' now → PassesMoment moments moments'
ticks_pass None moments' now ticks = tt
ticks_pass (Some told) moments' now ticks = inr ticks.1

pub stays_pass : (moments moments' : Option (List ℕ)) → moments' ≡ moments → PassesMoment moments moments'
stays_pass None moments' same = tt
stays_pass (Some told) moments' same = inl same

-- ---- findings

none_found : Findings
none_found = λ serial attempt. None

pub by_any : (old : StationState) (P : Findings → Type 0) → ((f : Findings) → P f) → ByFindings old P
by_any old P all = record { told = λ f told. all f; some = λ tells. (none_found, all none_found) }

pub by_step : (old : StationState) (c : Command) (now : ℕ) (end : End) (P : Findings → Type 0) → IsStep old c now end
    → ((f : Findings) → Ends old end (Step f old.program old.records c now) → P f) → ByFindings old P
by_step old c now end P step then =
    record { told = λ f told. then f (step.told f told); some = λ tells. let found = step.some tells in (found.0, then found.0 found.1) }

pub by_more : (old : StationState) (P Q : Findings → Type 0) → ((f : Findings) → P f → Q f) → ByFindings old P → ByFindings old Q
by_more old P Q more by = record { told = λ f told. more f (by.told f told); some = λ tells. let found = by.some tells in (found.0, more found.0 found.1) }

-- ---- what a request led to

-- the reply that is due, the clock, and what a crash leaves, by these findings
pub record Led (f : Findings) (old : StationState) (moments moments' : Option (List ℕ)) (bytes : List ℕ) (reply : Option Reply) (later : List StationRecord) (disk : DiskState) : Type 0 where
  pub due : Due f old.program old.records moments bytes reply later
  pub clock : PassesMoment moments moments'
  pub images : LeavesOnly old.disk disk (IsImageOfEither old.records later)

pub same_images : (old new : StationState) → new ≡ old → LeavesOnly old.disk new.disk (IsImageOfEither old.records new.records)
same_images old new same =
    subst (λ (s : StationState). LeavesOnly old.disk s.disk (IsImageOfEither old.records s.records)) (sym same) (none_images old.disk (IsImageOfEither old.records old.records))

-- a request that asks nothing of the station
pub alone_led : (f : Findings) (old new : StationState) (moments moments' : Option (List ℕ)) (bytes : List ℕ) (r : Option Request) (reply : Option Reply) → Asks bytes r
    → Expects f old.program old.records (moment_of moments) r reply new.records → LeavesAlone old new moments moments' → Led f old moments moments' bytes reply new.records new.disk
alone_led f old new moments moments' bytes r reply asked expects alone =
    record {
      due = record { asked = r; asks = asked; now = moment_of moments; now_is = tells_moment moments; expects = expects };
      clock = stays_pass moments moments' alone.clock;
      images = same_images old new alone.station;
    }

-- a command, whatever is said to it
pub step_led : (f : Findings) (old : StationState) (moments moments' : Option (List ℕ)) (bytes : List ℕ) (c : Command) (now : ℕ) (said : Said) (later : List StationRecord) (disk : DiskState)
    → Asks bytes (Some (asks.Command c)) → Ticks moments moments' now → Step f old.program old.records c now said later → LeavesOnly old.disk disk (IsImageOfEither old.records later)
    → Led f old moments moments' bytes (Some (said_reply (id_of c) said)) later disk
step_led f old moments moments' bytes c now said later disk asked ticks step images =
    record {
      due = record { asked = Some (asks.Command c); asks = asked; now = now; now_is = ticks_now moments moments' now ticks; expects = (said, step, refl) };
      clock = ticks_pass moments moments' now ticks;
      images = images;
    }

-- a command that was answered
answered_led : (f : Findings) (old new : StationState) (moments moments' : Option (List ℕ)) (bytes : List ℕ) (c : Command) (reply : Reply) → Asks bytes (Some (asks.Command c))
    → (answers : Answers old c moments moments' reply new) → Ends old (replied (answered answers.answer) new) (Step f old.program old.records c answers.now)
    → Led f old moments moments' bytes (Some reply) new.records new.disk
answered_led f old new moments moments' bytes c reply asked answers ends =
    let said : Said = answered answers.answer in
    let step = subst (λ (l : List StationRecord). Step f old.program old.records c answers.now said l) ends.given.1
    (subst (λ (s : Said). Step f old.program old.records c answers.now s ends.later) ends.given.0 ends.allowed) in
    let images = subst (λ (l : List StationRecord). LeavesOnly old.disk new.disk (IsImageOfEither old.records l)) ends.given.1 ends.images in
    subst (λ (r : Reply). Led f old moments moments' bytes (Some r) new.records new.disk) (sym answers.reply_is)
    (step_led f old moments moments' bytes c answers.now said new.records new.disk asked answers.ticks step images)

-- the station goes on
pub goes_led : (old new : StationState) (moments moments' : Option (List ℕ)) (bytes : List ℕ) (r : Request) (reply : Reply) → Asks bytes (Some r)
    → GoesOnWith old r moments moments' reply new → ByFindings old (λ f. Led f old moments moments' bytes (Some reply) new.records new.disk)
goes_led old new moments moments' bytes (asks.Refused why) reply asked (says, alone) =
    by_any old (λ f. Led f old moments moments' bytes (Some reply) new.records new.disk)
    (λ f. alone_led f old new moments moments' bytes (Some (asks.Refused why)) (Some reply) asked (ap Some says, ap (λ (s : StationState). s.records) alone.station) alone)
goes_led old new moments moments' bytes (asks.Unit serial) reply asked (says, alone) =
    by_any old (λ f. Led f old moments moments' bytes (Some reply) new.records new.disk)
    (λ f. alone_led f old new moments moments' bytes (Some (asks.Unit serial)) (Some reply) asked (ap Some says, ap (λ (s : StationState). s.records) alone.station) alone)
goes_led old new moments moments' bytes asks.Lot reply asked (says, alone) =
    by_any old (λ f. Led f old moments moments' bytes (Some reply) new.records new.disk)
    (λ f. alone_led f old new moments moments' bytes (Some asks.Lot) (Some reply) asked (ap Some says, ap (λ (s : StationState). s.records) alone.station) alone)
goes_led old new moments moments' bytes (asks.Command c) reply asked answers =
    by_step old c answers.now (replied (answered answers.answer) new) (λ f. Led f old moments moments' bytes (Some reply) new.records new.disk) answers.done.step
    (λ f ends. answered_led f old new moments moments' bytes c reply asked answers ends)

-- a command that was lost
pub lost_led : (f : Findings) (old : StationState) (moments moments' : Option (List ℕ)) (bytes : List ℕ) (c : Command) (now : ℕ) (disk : DiskState) → Asks bytes (Some (asks.Command c))
    → Ticks moments moments' now → (ends : Ends old (lost disk) (Step f old.program old.records c now))
    → Led f old moments moments' bytes (Some (said_reply (id_of c) ends.reply)) ends.later disk
lost_led f old moments moments' bytes c now disk asked ticks ends = step_led f old moments moments' bytes c now ends.reply ends.later disk asked ticks ends.allowed ends.images

-- a command whose three zero calls failed
pub stuck_led : (f : Findings) (old : StationState) (moments moments' : Option (List ℕ)) (bytes : List ℕ) (c : Command) (now : ℕ) (disk : DiskState) → Asks bytes (Some (asks.Command c))
    → Ticks moments moments' now → Ends old (stuck disk) (Step f old.program old.records c now)
    → Led f old moments moments' bytes (Some (said_reply (id_of c) not_at_zero)) old.records disk
stuck_led f old moments moments' bytes c now disk asked ticks ends =
    step_led f old moments moments' bytes c now not_at_zero old.records disk asked ticks
    (subst (λ (l : List StationRecord). Step f old.program old.records c now not_at_zero l) ends.given.1
    (subst (λ (s : Said). Step f old.program old.records c now s ends.later) ends.given.0 ends.allowed))
    (subst (λ (l : List StationRecord). LeavesOnly old.disk disk (IsImageOfEither old.records l)) ends.given.1 ends.images)

-- what a crash leaves behind it
pub kept_either : (old new : DiskState) (R later : List StationRecord) → LeavesOnly old new (IsImageOfEither R later) → EachImage old (IsImageOf R) → EachImage new (IsImageOfEither R later)
kept_either old new R later leaves was honest file told image left =
    ⊎_elim (λ before. inl before) (λ either. either) (each_after old new (IsImageOfEither R later) (IsImageOf R) leaves was honest file told image left)
