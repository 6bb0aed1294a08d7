-- What a contract sees of connections and a door in memory.
use Rattle.std.specs.Prelude.{◌≡◌, ℕ, List, [], Option, Some, map}
use Rattle.door_edge.specs.Doors.{Talk}
use Rattle.door_edge.specs.declared.conn.MemConn.{MemConn}

-- the connections, and the room for more
pub record Conns : Type 0 where
  pub items : List MemConn
  pub room : ℕ

-- the connections to come and those that are done, the room for more, and the calls that fail
pub record AtDoor : Type 0 where
  pub waiting : List MemConn
  pub done : List MemConn
  pub room : ℕ
  pub failing : List ℕ
  pub calls : ℕ
  pub faults : ℕ

abbrev pub talk_of : MemConn → Talk
talk_of c = record { left = Some c.input.left; got = Some c.output.got; read_faults = c.input.faults; write_faults = c.output.faults }

-- the door tells what each connection to come has to say
abbrev pub told_waiting : AtDoor → Option (List (List ℕ))
told_waiting door = Some (map (λ c. c.input.left) door.waiting)

-- and what was said over each one that is done
abbrev pub told_done : AtDoor → Option (List Talk)
told_done door = Some (map talk_of door.done)

-- nothing was written to it, and no fault counted
pub record IsNew (c : MemConn) : Type 0 where
  pub got : c.output.got ≡ []
  pub reads : c.input.faults ≡ 0
  pub writes : c.output.faults ≡ 0
