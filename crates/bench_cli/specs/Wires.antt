-- The wirelist: what it says, why it is refused, and what is written then.
--     IsWirelist file p         the file has no fault, and says the program
--     first_refusal file        the first of its faults
--     wires_refusal_line e      `wirelist refused N` and the numbers that the refusal carries
--     points_differ_line m n    harness and wirelist have other numbers of points
use Rattle.std.specs.Prelude.{◌≡◌, ℕ, List, [], ◌++◌, Option, None, Some, codes, decimal, slice_get}
use Rattle.partition.specs.declared.nets.NetsRefusal.{NetsRefusal}
use Rattle.partition.specs.declared.nets.NetsRefusal.TheVariants as nets
use Rattle.wirelist.specs.declared.program.Program.{Program}
use Rattle.wirelist.specs.declared.refusal.WireRefusal.{WireRefusal}
use Rattle.wirelist.specs.declared.refusal.WireRefusal.TheVariants as wire
use Rattle.wirelist_rows.specs.Filled.{rows_in}
use Rattle.wirelist_reader.specs.Refusals.{refusals}
use Rattle.wirelist_reader.specs.Rows.{program_of}
use Rattle.bench_cli.specs.declared.wires.Numbers.{Numbers}

-- the file has no fault, and says this program
pub record IsWirelist (file : List ℕ) (p : Program) : Type 0 where
  pub faultless : refusals file ≡ []
  pub says : p ≡ program_of (rows_in file)

-- the first fault of the file
abbrev pub first_refusal : List ℕ → Option WireRefusal
first_refusal file = slice_get (refusals file) 0

abbrev numbers : ℕ → Option ℕ → Option ℕ → Numbers
numbers own first second = record { own = own; first = first; second = second }

-- the numbers of a refusal of nets: its own among those, and its value
abbrev pub nets_numbers : NetsRefusal → Numbers
nets_numbers (nets.OutOfRange p) = numbers 7 (Some 1) (Some p)
nets_numbers (nets.Twice p) = numbers 7 (Some 2) (Some p)
nets_numbers (nets.EmptyNet i) = numbers 7 (Some 3) (Some i)
nets_numbers nets.NoneJudged = numbers 7 (Some 4) None
nets_numbers nets.Memory = numbers 7 None None

-- the number of a refusal, and those that it carries
abbrev pub numbers_of : WireRefusal → Numbers
numbers_of (wire.NotText n) = numbers 1 (Some n) None
numbers_of (wire.UnknownKind n) = numbers 2 (Some n) None
numbers_of (wire.BadField n f) = numbers 3 (Some n) (Some f)
numbers_of wire.NoPart = numbers 4 None None
numbers_of (wire.SecondRow n) = numbers 5 (Some n) None
numbers_of (wire.TooManyPoints n) = numbers 6 (Some n) None
numbers_of (wire.Nets e) = nets_numbers e
numbers_of (wire.SameName n) = numbers 8 (Some n) None
numbers_of (wire.BadWindow n) = numbers 9 (Some n) None
numbers_of (wire.PartInsideNet n) = numbers 10 (Some n) None
numbers_of (wire.TooManyClusters n) = numbers 11 (Some n) None
numbers_of (wire.TooLong n) = numbers 12 (Some n) None
numbers_of (wire.PartPoint n) = numbers 13 (Some n) None
numbers_of (wire.SecondPart n) = numbers 14 (Some n) None
numbers_of (wire.TooManyParts n) = numbers 15 (Some n) None
numbers_of wire.Memory = numbers 0 None None

-- a number behind a space, where there is one
abbrev pub number_words : Option ℕ → List ℕ
number_words None = []
number_words (Some n) = codes " " ++ decimal n

abbrev pub numbers_line : Numbers → List ℕ
numbers_line n = codes "wirelist refused " ++ (decimal n.own ++ (number_words n.first ++ (number_words n.second ++ codes "\n")))

abbrev pub wires_refusal_line : WireRefusal → List ℕ
wires_refusal_line refusal = numbers_line (numbers_of refusal)

abbrev pub points_differ_line : ℕ → ℕ → List ℕ
points_differ_line harness wirelist = codes "points differ harness " ++ (decimal harness ++ (codes " wirelist " ++ (decimal wirelist ++ codes "\n")))
