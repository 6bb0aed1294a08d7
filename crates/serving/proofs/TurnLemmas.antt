-- Each visit as one turn of the station, as the lines of a script are.
use Rattle.std.proofs.Common.{◌≡◌, inl, inr, sym, refl, subst, ℕ, ◌+◌, List, [], ◌∷◌, ◌++◌, Option, Some, None}
use Rattle.serials.specs.declared.command.Command.{Command}
use Rattle.serials.specs.Commands.{id_of}
use Rattle.station.specs.Ended as ended
use Rattle.station.specs.Step.{answered}
use Rattle.station.specs.View.{StationState, IsStanding}
use Rattle.http_exchange.specs.declared.request.Request.{Request}
use Rattle.http_exchange.specs.declared.request.Request.TheVariants as asks
use Rattle.http_exchange.specs.Replies.{Reply}
use Rattle.door_edge.specs.Doors.{Talk}
use Rattle.script.specs.Said.{Asked, Said, no_command, replied}
use Rattle.script.specs.Turns.{IsTurn}
use Rattle.script.proofs.answers.Applied.{by_both, none_turn, answered_turn}
use Rattle.script.proofs.answers.History.{Turn, IsHistory}
use Rattle.station_http.specs.Turns.{Answers, GoesOnWith}
use Rattle.serving.specs.Visits.{ServedSo, Stage, Visits, last_stage}

-- one turn led from one station to the other, and that stands
pub record OneTurn (old new : StationState) : Type 0 where
  pub asked : Asked
  pub now : ℕ
  pub said : Said
  pub turn : IsTurn old asked now said new
  pub standing : IsStanding old → IsStanding new

-- nothing was asked of the station
unfoldable pub no-turn : (old new : StationState) → new ≡ old → OneTurn old new
no-turn old new same =
    record {
      asked = (0, None);
      now = 0;
      said = no_command 0;
      turn = subst (λ (s : StationState). IsTurn old (0, None) 0 (no_command 0) s) (sym same) (none_turn old 0 0);
      standing = λ standing. subst IsStanding (sym same) standing;
    }

-- a command was answered
unfoldable pub answers-turn : (old new : StationState) (c : Command) (moments moments' : Option (List ℕ)) (reply : Reply) → Answers old c moments moments' reply new → OneTurn old new
answers-turn old new c moments moments' reply answers =
    let done = answers.done in
    let on = done.goes_on in
    record {
      asked = (0, Some c);
      now = answers.now;
      said = replied (id_of c) (answered answers.answer);
      turn = answered_turn old 0 c answers.now new answers.answer (by_both old (ended.replied (answered answers.answer) new) _ done.step.told done.step.some)
          done.same on.limit on.disk_later done.rig on.rig_kept on.tallies done.order;
      standing = λ before. done.standing;
    }

unfoldable pub goes-turn : (old new : StationState) (r : Request) (moments moments' : Option (List ℕ)) (reply : Reply) → GoesOnWith old r moments moments' reply new → OneTurn old new
goes-turn old new (asks.Refused why) moments moments' reply (says, alone) = no-turn old new alone.station
goes-turn old new (asks.Unit serial) moments moments' reply (says, alone) = no-turn old new alone.station
goes-turn old new asks.Lot moments moments' reply (says, alone) = no-turn old new alone.station
goes-turn old new (asks.Command c) moments moments' reply answers = answers-turn old new c moments moments' reply answers

unfoldable pub served-turn : (old new : StationState) (came went : Talk) (moments moments' : Option (List ℕ)) (status : Option ℕ) → ServedSo old came went moments moments' status new → OneTurn old new
served-turn old new came went moments moments' status (inl whole) =
    let reply = whole.replied in
    goes-turn old new whole.asked moments moments' reply.reply reply.went_on
served-turn old new came went moments moments' status (inr cut) = no-turn old new cut.alone.station

-- the visits are turns, one after the other, and the last station stands
pub record Turns (first last : StationState) : Type 0 where
  pub turns : List Turn
  pub history : IsHistory first turns last
  pub standing : IsStanding first → IsStanding last

unfoldable pub visits-turns : (number : ℕ) (stage : Stage) (stages : List Stage) → Visits number stage stages → Turns stage.station (last_stage stage stages).station
visits-turns number stage [] visits = record { turns = []; history = refl; standing = λ standing. standing }
visits-turns number stage (next ∷ more) (visit, visits) =
    let one = served-turn stage.station next.station visit.came visit.went stage.moments next.moments visit.status visit.served in
    let rest = visits-turns (number + 1) next more visits in
    record {
      turns = (record { asked = one.asked; now = one.now; said = one.said; after = next.station }) ∷ rest.turns;
      history = (one.turn, rest.history);
      standing = λ standing. rest.standing (one.standing standing);
    }

pub history-push : (turns : List Turn) (s mid : StationState) (turn : Turn) → IsHistory s turns mid → IsTurn mid turn.asked turn.now turn.said turn.after → IsHistory s (turns ++ turn ∷ []) turn.after
history-push [] s mid turn is one = (subst (λ (x : StationState). IsTurn x turn.asked turn.now turn.said turn.after) is one, refl)
history-push (t ∷ turns) s mid turn (first, more) one = (first, history-push turns t.after mid turn more one)

-- and one turn more
unfoldable pub turns-more : (first mid last : StationState) → Turns first mid → OneTurn mid last → Turns first last
turns-more first mid last so_far one =
    let turn : Turn = record { asked = one.asked; now = one.now; said = one.said; after = last } in
    record {
      turns = so_far.turns ++ turn ∷ [];
      history = history-push so_far.turns first mid turn so_far.history one.turn;
      standing = λ standing. one.standing (so_far.standing standing);
    }
