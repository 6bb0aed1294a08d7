-- The head of a request among the bytes of a connection.
--     head_of bytes         the head, if the bytes have its end
--     IsHead bytes h        the bytes are the head h, which has at most 64 fields
--     values_of name h      the values of the fields with this name
use Rattle.std.specs.Prelude.{ℕ, ◌≤◌, Bool, ◌||◌, nat_eq, List, [], ◌∷◌, length, map, filter, find, bytes_eq, Option}
use Rattle.std.specs.List.{ends_with}
use Rattle.std.specs.Char.{to_ascii_lowercase}
use Rattle.httparse.specs.Grammar.{RequestHead, field_value, ReadsRequest}

-- the fronts of a list, the shortest first
abbrev pub fronts : List ℕ → List (List ℕ)
fronts [] = [] ∷ []
fronts (byte ∷ bytes) = [] ∷ map (λ front. byte ∷ front) (fronts bytes)

-- the last bytes are an LF and behind it an empty line: an LF, or a CR and an LF
abbrev pub ends_head : List ℕ → Bool
ends_head bytes = ends_with nat_eq bytes (10 ∷ 10 ∷ []) || ends_with nat_eq bytes (10 ∷ 13 ∷ 10 ∷ [])

-- the head is the shortest front that ends so
unfoldable pub head_of : List ℕ → Option (List ℕ)
head_of bytes = find ends_head (fronts bytes)

-- the most bytes of a head
abbrev pub longest_head : ℕ
longest_head = 8192

-- the most fields of a head
abbrev pub most_fields : ℕ
most_fields = 64

-- all of the bytes are a request head of the grammar
abbrev pub IsHead : List ℕ → RequestHead → Type 0
IsHead bytes h = ReadsRequest bytes h [] × (length h.fields ≤ most_fields)

-- names of fields are compared without case
abbrev pub same_name : List ℕ → List ℕ → Bool
same_name a b = bytes_eq (map to_ascii_lowercase a) (map to_ascii_lowercase b)

-- the values of the fields with this name, in order, without the white space around them
abbrev pub values_of : List ℕ → RequestHead → List (List ℕ)
values_of name h = map field_value (filter (λ f. same_name f.name name) h.fields)
