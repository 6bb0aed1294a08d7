-- The status and the closing line of an opening that was refused.
--     refused_status answer   the exit status
--     refused_line answer     the closing line, with its line feed; nothing where memory ran out
use Rattle.std.specs.Prelude.{ℕ, ◌+◌, ◌/◌, ◌%◌, nat_lt, List, [], ◌∷◌, ◌++◌, codes, decimal, if◌then◌else◌}
use Rattle.std.specs.List.{flat_map}
use Rattle.journal.specs.declared.refusal.Refusal.{Refusal}
use Rattle.journal.specs.declared.refusal.Refusal.TheVariants.{NotJournal, BadEntry, TooLong, Failed, Memory}
use Rattle.ledger.specs.Opening.{Opening, found, no_journal, bad_record, failed, no_memory}

-- a digit to the base of 16, in small letters from ten on
abbrev pub hex_digit : ℕ → ℕ
hex_digit n = if nat_lt n 10 then 48 + n else 87 + n

-- two digits for each byte
abbrev pub hex_text : List ℕ → List ℕ
hex_text bytes = flat_map (λ b. hex_digit (b / 16) ∷ hex_digit (b % 16) ∷ []) bytes

-- an entry, and where its gate stands
abbrev pub entry_text : ℕ → ℕ → List ℕ
entry_text number place = codes " record " ++ decimal number ++ codes " at " ++ decimal place

-- what is wrong with a file, which is none of the last two
abbrev pub file_line : Refusal → List ℕ
file_line (NotJournal first) = codes "journal refused 1 " ++ hex_text first ++ codes "\n"
file_line (BadEntry number place) = codes "journal refused 2" ++ entry_text number place ++ codes "\n"
file_line (TooLong len) = codes "journal refused 3 length " ++ decimal len ++ codes "\n"
file_line Failed = []
file_line Memory = []

-- the line
abbrev pub refused_line : Opening → List ℕ
refused_line (found R) = []
refused_line (no_journal why) = file_line why
refused_line (bad_record number place) = codes "journal refused 4" ++ entry_text number place ++ codes "\n"
refused_line failed = codes "disk fault\n"
refused_line no_memory = []

-- 5 for what is wrong with the file, 8 for a disk that failed, 9 for want of memory
abbrev pub refused_status : Opening → ℕ
refused_status (found R) = 0
refused_status (no_journal why) = 5
refused_status (bad_record number place) = 5
refused_status failed = 8
refused_status no_memory = 9
