-- The replies of the station, as bytes.
use Rattle.std.specs.Prelude.{ℕ, List, [], ◌∷◌, ◌++◌, length, codes, Option, Some, None}
use Rattle.std.specs.Fmt.{decimal}
use Rattle.http_exchange.specs.declared.page.Verb.{Verb}
use Rattle.http_exchange.specs.declared.request.Refusal.{Refusal}
use Rattle.http_exchange.specs.declared.request.Refusal.TheVariants as refusal
use Rattle.http_exchange.specs.declared.reply.AnswerKind.{AnswerKind}
use Rattle.http_exchange.specs.declared.reply.AnswerKind.TheVariants.{Done, Conflict, Gateway}
use Rattle.http_exchange.specs.declared.reply.Stop.{Stop}
use Rattle.http_exchange.specs.declared.reply.Stop.TheVariants as stop
use Rattle.http_exchange.specs.Routes.{verb_name}

-- the status and its phrase, the method that is allowed where another was asked, and the body with its type
pub record Reply : Type 0 where
  pub status : ℕ
  pub phrase : List ℕ
  pub allowed : Option Verb
  pub kind : List ℕ
  pub body : List ℕ

-- a line ends with CR LF
abbrev pub http_line : List ℕ → List ℕ
http_line text = text ++ 13 ∷ 10 ∷ []

-- the line of the status
abbrev pub first_line : ℕ → List ℕ → List ℕ
first_line status phrase = codes "HTTP/1.1 " ++ decimal status ++ codes " " ++ http_line phrase

-- the line that names the method that is allowed
abbrev pub allow_line : Option Verb → List ℕ
allow_line None = []
allow_line (Some verb) = codes "Allow: " ++ http_line (verb_name verb)

-- the line of the body's type
abbrev pub type_line : List ℕ → List ℕ
type_line kind = codes "Content-Type: " ++ http_line kind

-- the line of the body's length
abbrev pub length_line : ℕ → List ℕ
length_line length' = codes "Content-Length: " ++ http_line (decimal length')

-- the last line of the head, and the empty line behind it
abbrev pub last_lines : List ℕ
last_lines = http_line (codes "Connection: close") ++ http_line []

-- the bytes of a reply
unfoldable pub reply_bytes : Reply → List ℕ
reply_bytes r = first_line r.status r.phrase ++ allow_line r.allowed ++ type_line r.kind ++ length_line (length r.body) ++ last_lines ++ r.body

-- `{"KEY":"TEXT"}`, the text having no byte that JSON would escape
abbrev pub json_text : List ℕ → List ℕ → List ℕ
json_text key text = codes "{\"" ++ key ++ codes "\":\"" ++ text ++ codes "\"}"

-- a reply with a JSON body
abbrev pub json_reply : ℕ → List ℕ → List ℕ → Reply
json_reply status phrase body = record { status = status; phrase = phrase; allowed = None; kind = codes "application/json"; body = body }

-- a reply that says why not
abbrev pub error_reply : ℕ → List ℕ → List ℕ → Reply
error_reply status phrase why = json_reply status phrase (json_text (codes "error") why)

-- why a request is refused, in a word
abbrev pub refusal_word : Refusal → List ℕ
refusal_word refusal.Request = codes "request"
refusal_word refusal.Coding = codes "coding"
refusal_word refusal.NotFound = codes "not found"
refusal_word (refusal.Method allowed) = codes "method"
refusal_word refusal.Length = codes "length"
refusal_word refusal.TooLong = codes "too long"

-- the reply to a request that is refused
abbrev pub refusal_reply : Refusal → Reply
refusal_reply refusal.Request = error_reply 400 (codes "Bad Request") (refusal_word refusal.Request)
refusal_reply refusal.Coding = error_reply 501 (codes "Not Implemented") (refusal_word refusal.Coding)
refusal_reply refusal.NotFound = error_reply 404 (codes "Not Found") (refusal_word refusal.NotFound)
refusal_reply (refusal.Method allowed) =
    record (error_reply 405 (codes "Method Not Allowed") (refusal_word (refusal.Method allowed))) { allowed = Some allowed }
refusal_reply refusal.Length = error_reply 411 (codes "Length Required") (refusal_word refusal.Length)
refusal_reply refusal.TooLong = error_reply 413 (codes "Content Too Large") (refusal_word refusal.TooLong)

-- the reply where the station stops
abbrev pub stop_reply : Stop → Reply
stop_reply stop.Disk = error_reply 503 (codes "Service Unavailable") (codes "disk")
stop_reply stop.Memory = error_reply 500 (codes "Internal Server Error") (codes "memory")

-- a report
abbrev pub report_reply : List ℕ → Reply
report_reply text = record { status = 200; phrase = codes "OK"; allowed = None; kind = codes "text/plain"; body = text }

-- the answer line of a command, and how the command came out
abbrev pub answer_reply : AnswerKind → List ℕ → Reply
answer_reply Done line = json_reply 200 (codes "OK") (json_text (codes "answer") line)
answer_reply Conflict line = json_reply 409 (codes "Conflict") (json_text (codes "answer") line)
answer_reply Gateway line = json_reply 502 (codes "Bad Gateway") (json_text (codes "answer") line)
