-- The pages of the station by their paths, and their methods.
use Rattle.std.specs.Prelude.{ℕ, ◌==◌, ◌&&◌, Bool, not, nat_lt, nat_eq, List, [], ◌∷◌, length, drop, codes, Option, Some, None, bytes_eq, if◌then◌else◌}
use Rattle.std.specs.List.{list_any, starts_with, before_first}
use Rattle.http_exchange.specs.declared.page.Submission.TheVariants.{Tests, Rework, Release, Scrap}
use Rattle.http_exchange.specs.declared.page.Page.{Page}
use Rattle.http_exchange.specs.declared.page.Page.TheVariants.{Submit, Unit, Report}
use Rattle.http_exchange.specs.declared.page.Verb.{Verb}
use Rattle.http_exchange.specs.declared.page.Verb.TheVariants as verb

-- a serial in a path: one byte at least and no slash
abbrev pub is_serial : List ℕ → Bool
is_serial text = nat_lt 0 (length text) && not (list_any (λ b. b == 47) text)

-- `/units/` and then a serial
abbrev pub is_unit : List ℕ → Bool
is_unit path = starts_with nat_eq path (codes "/units/") && is_serial (drop 7 path)

-- the pages with one path each
abbrev pub fixed : List (List ℕ × Page)
fixed =
    (codes "/release", Submit Release)
    ∷ (codes "/report", Report)
    ∷ (codes "/rework", Submit Rework)
    ∷ (codes "/scrap", Submit Scrap)
    ∷ (codes "/tests", Submit Tests)
    ∷ []

-- the page with this path, or the other answer
abbrev pub page_in : List ℕ → List (List ℕ × Page) → Option Page → Option Page
page_in path [] other = other
page_in path ((text, page) ∷ rest) other = if bytes_eq path text then Some page else page_in path rest other

-- the page of a path
abbrev pub page_at : List ℕ → Option Page
page_at path = page_in path fixed (if is_unit path then Some Unit else None)

-- the part of a target before its query
abbrev pub path_of : List ℕ → List ℕ
path_of target = before_first (λ b. b == 63) target

-- the serial in the path of a unit
abbrev pub serial_in : List ℕ → List ℕ
serial_in path = drop 7 path

-- the one method that a page takes
abbrev pub verb_of : Page → Verb
verb_of (Submit s) = verb.Post
verb_of Unit = verb.Get
verb_of Report = verb.Get

-- its name
abbrev pub verb_name : Verb → List ℕ
verb_name verb.Get = codes "GET"
verb_name verb.Post = codes "POST"
