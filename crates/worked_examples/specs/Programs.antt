-- The programs of the examples.
use Rattle.std.specs.Prelude.{ℕ, List, [], ◌∷◌, Some, None, codes}
use Rattle.wirelist.specs.declared.program.Program.{Program}

-- the nets A and B of five points, and the points that are ignored
abbrev pub small_program : List ℕ → Program
small_program ignored = record {
  part = codes "P1";
  revision = 1;
  nets = record { points = 5; named = (0 ∷ 1 ∷ []) ∷ (2 ∷ 3 ∷ []) ∷ []; ignored = ignored };
  names = codes "A" ∷ codes "B" ∷ [];
  resistors = [];
  diodes = [];
  insulation = None;
  withstand = None;
  attempts = 3;
}

-- a cable of 24 points with a terminating resistor between two of its nets
abbrev pub cable : Program
cable = record {
  part = codes "CABLE24";
  revision = 2;
  nets = record {
    points = 24;
    named =
        (0 ∷ 8 ∷ 16 ∷ []) ∷ (1 ∷ 9 ∷ 17 ∷ []) ∷ (2 ∷ 10 ∷ []) ∷ (3 ∷ 11 ∷ []) ∷ (4 ∷ 12 ∷ []) ∷ (5 ∷ 13 ∷ [])
        ∷ (6 ∷ 14 ∷ 18 ∷ 20 ∷ []) ∷ (7 ∷ 15 ∷ 19 ∷ 21 ∷ []) ∷ (22 ∷ 23 ∷ []) ∷ [];
    ignored = [];
  };
  names = codes "GND" ∷ codes "P5" ∷ codes "CLK" ∷ codes "DAT" ∷ codes "CS" ∷ codes "INT" ∷ codes "TX" ∷ codes "RX" ∷ codes "SHLD" ∷ [];
  resistors = record { name = codes "R120"; a = 6; b = 7; min = 114000; max = 126000 } ∷ [];
  diodes = [];
  insulation = Some (record { volts = 500; ticks = 20; megohms = 100 });
  withstand = Some (record { volts = 1500; ticks = 10; nanoamps = 2000 });
  attempts = 3;
}

-- with one component between the two nets
abbrev pub with_diode : Program
with_diode = record (small_program []) { diodes = record { name = codes "D1"; from = 0; to = 2; min = 500; max = 800 } ∷ [] }

abbrev pub with_resistor : Program
with_resistor = record (small_program []) { resistors = record { name = codes "R1"; a = 0; b = 2; min = 20000; max = 30000 } ∷ [] }

-- with a test at high voltage
abbrev pub with_insulation : Program
with_insulation = record (small_program []) { insulation = Some (record { volts = 500; ticks = 1; megohms = 100 }) }

abbrev pub with_withstand : ℕ → ℕ → Program
with_withstand volts nanoamps = record (small_program []) { withstand = Some (record { volts = volts; ticks = 1; nanoamps = nanoamps }) }
