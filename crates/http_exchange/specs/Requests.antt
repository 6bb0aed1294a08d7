-- What the bytes of a connection ask of the station: the first check that applies.
--     HeadAsks head asked       what a head asks: the checks on a head, in their order
--     Asks bytes request        what the bytes ask, or None where they end before the request does
use Rattle.std.specs.Prelude.{◌≡◌, ◌⊎◌, ℕ, Bool, ◌&&◌, nat_lt, nat_le, bytes_eq, if◌then◌else◌, ⊤}
use Rattle.std.specs.Prelude.{List, [], ◌∷◌, length, take, drop, codes, Option, Some, None, MatchOption}
use Rattle.std.specs.Fmt.{decimal}
use Rattle.std.specs.Str.Parse.{digits_value}
use Rattle.httparse.specs.Grammar.{RequestHead}
use Rattle.partition.specs.Names.{is_name}
use Rattle.serials.specs.declared.command.Command.{Command}
use Rattle.http_exchange.specs.declared.page.Submission.{Submission}
use Rattle.http_exchange.specs.declared.page.Page.{Page}
use Rattle.http_exchange.specs.declared.page.Page.TheVariants as page
use Rattle.http_exchange.specs.declared.request.Refusal.{Refusal}
use Rattle.http_exchange.specs.declared.request.Refusal.TheVariants as refusal
use Rattle.http_exchange.specs.declared.request.Request.{Request}
use Rattle.http_exchange.specs.declared.request.Request.TheVariants as request
use Rattle.http_exchange.specs.declared.request.Asked.{Asked}
use Rattle.http_exchange.specs.declared.request.Asked.TheVariants.{Known, Body}
use Rattle.http_exchange.specs.Heads.{head_of, longest_head, IsHead, values_of}
use Rattle.http_exchange.specs.Routes.{page_at, path_of, serial_in, verb_of, verb_name}
use Rattle.http_exchange.specs.Bodies.{command_of, IsSubmitted}

-- a request that is refused
abbrev pub refused : Refusal → Asked
refused why = Known (request.Refused why)

-- the most bytes of a body
abbrev pub longest_body : ℕ
longest_body = 4096

-- a number of at most nine digits, as it is printed
abbrev pub is_length : List ℕ → Bool
is_length text = bytes_eq text (decimal (digits_value 10 text)) && nat_le (digits_value 10 text) 999999999

-- a body of so many bytes
abbrev pub sized : Submission → ℕ → Asked
sized s length = if nat_lt longest_body length then refused refusal.TooLong else Body s length

-- a submission has one Content-Length, and that is a length
abbrev pub posted : Submission → List (List ℕ) → Asked
posted s [] = refused refusal.Length
posted s (text ∷ []) = if is_length text then sized s (digits_value 10 text) else refused refusal.Request
posted s (text ∷ other ∷ more) = refused refusal.Request

-- the report of a unit, whose serial is a name
abbrev pub unit_asked : List ℕ → Asked
unit_asked serial = if is_name serial then Known (request.Unit serial) else refused refusal.NotFound

-- what a page is asked
abbrev pub page_asked : RequestHead → Page → Asked
page_asked h (page.Submit s) = posted s (values_of (codes "content-length") h)
page_asked h page.Unit = unit_asked (serial_in (path_of h.target))
page_asked h page.Report = Known request.Lot

-- there is a page, and the method is its own
abbrev pub routed : RequestHead → Option Page → Asked
routed h None = refused refusal.NotFound
routed h (Some p) = if bytes_eq h.method (verb_name (verb_of p)) then page_asked h p else refused (refusal.Method (verb_of p))

-- no coding of the body is named
abbrev pub coded : RequestHead → List (List ℕ) → Asked
coded h [] = routed h (page_at (path_of h.target))
coded h (coding ∷ more) = refused refusal.Coding

-- what a head of the grammar asks
unfoldable pub asked_by : RequestHead → Asked
asked_by h = coded h (values_of (codes "transfer-encoding") h)

-- what bytes ask that are to be a head
abbrev pub HeadAsks : List ℕ → Asked → Type 0
HeadAsks head asked =
    (((h : RequestHead) → ¬ (IsHead head h)) × (asked ≡ refused refusal.Request))
    ⊎ ((h : RequestHead) × IsHead head h × (asked ≡ asked_by h))

-- the command of a body, or that there is none
abbrev pub commanded : Option Command → Request
commanded None = request.Refused refusal.Request
commanded (Some c) = request.Command c

-- what is asked, the body being the first of the bytes behind the head; None where they end before it
abbrev pub answered_with : Asked → List ℕ → Option Request
answered_with (Known r) rest = Some r
answered_with (Body s length') rest = if nat_lt (length rest) length' then None else Some (commanded (command_of s (take length' rest)))

-- there is no end of a head in the first bytes
abbrev pub without_head : List ℕ → Option Request
without_head bytes = if nat_lt (length bytes) longest_head then None else Some (request.Refused refusal.Request)

-- what the bytes of a connection ask
abbrev pub Asks : List ℕ → Option Request → Type 0
Asks bytes r =
    MatchOption (head_of (take longest_head bytes))
    (r ≡ without_head bytes)
    (λ head. (asked : Asked) × HeadAsks head asked × (r ≡ answered_with asked (drop (length head) bytes)))

-- the bytes hold a request to the end that the checks need
abbrev pub IsWhole : List ℕ → Type 0
IsWhole bytes = (r : Request) × Asks bytes (Some r)

-- a command that is asked for is one that can be submitted
abbrev pub SubmitsOnly : Request → Type 0
SubmitsOnly (request.Refused why) = ⊤
SubmitsOnly (request.Unit serial) = ⊤
SubmitsOnly request.Lot = ⊤
SubmitsOnly (request.Command c) = IsSubmitted c
