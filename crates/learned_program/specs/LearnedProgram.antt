-- The program that the learned classes of a unit's points give.
--     class_points classes c    the points of a class, ascending
--     learned_nets classes      the classes of two points or more, in order of least point
--     learned_names nets        the names N1, N2, .. , one for each net
--     learned_program classes   the whole program
--     learned_text classes      its canonical text
use Rattle.std.specs.Prelude.{ℕ, ◌==◌, nat_lt, List, [], ◌++◌, length, filter, map, codes, decimal, None}
use Rattle.std.specs.List.{range_with_len}
use Rattle.partition.specs.Classes.{points_below, class_at}
use Rattle.partition.specs.Heads.{heads}
use Rattle.partition.specs.NetTable.{NetTable}
use Rattle.wirelist.specs.declared.program.Program.{Program}
use Rattle.wirelist.specs.Canonical.{canonical}

-- the points of the class of this number, ascending
abbrev pub class_points : List ℕ → ℕ → List ℕ
class_points classes c = filter (λ p. class_at classes p == c) (points_below (length classes))

-- the classes of two points or more, in order of least point
abbrev pub learned_nets : List ℕ → List (List ℕ)
learned_nets classes = filter (λ net. nat_lt 1 (length net)) (map (class_points classes) (heads classes))

-- N1 is the name of the first net
abbrev pub learned_name : ℕ → List ℕ
learned_name number = codes "N" ++ decimal number

abbrev pub learned_names : List (List ℕ) → List (List ℕ)
learned_names nets = map learned_name (range_with_len 1 (length nets))

-- each other point is a net of its own; all points are judged
abbrev pub learned_table : List ℕ → NetTable
learned_table classes = record { points = length classes; named = learned_nets classes; ignored = [] }

-- no component, no test at high voltage
abbrev pub learned_program : List ℕ → Program
learned_program classes = record {
  part = codes "LEARNED";
  revision = 1;
  nets = learned_table classes;
  names = learned_names (learned_nets classes);
  resistors = [];
  diodes = [];
  insulation = None;
  withstand = None;
  attempts = 3;
}

abbrev pub learned_text : List ℕ → List ℕ
learned_text classes = canonical (learned_program classes)
