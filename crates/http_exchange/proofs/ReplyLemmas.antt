-- Replies, part by part.
use Rattle.std.proofs.Common.{◌≡◌, ◌∙◌, refl, ap, ℕ, List, [], ◌++◌, append_assoc, Option, None, codes}
use Rattle.http_exchange.specs.declared.page.Verb.{Verb}
use Rattle.http_exchange.specs.declared.request.Refusal.{Refusal}
use Rattle.http_exchange.specs.declared.request.Refusal.TheVariants as refusal
use Rattle.http_exchange.specs.declared.reply.AnswerKind.{AnswerKind}
use Rattle.http_exchange.specs.declared.reply.AnswerKind.TheVariants.{Done, Conflict, Gateway}
use Rattle.http_exchange.specs.Replies.{Reply, json_text, refusal_word, refusal_reply, answer_reply}

-- six parts, put one behind the other
pub six_parts : (a b c d e f t0 t1 t2 t3 t4 t5 t6 : List ℕ) → t0 ≡ [] → t1 ≡ t0 ++ a → t2 ≡ t1 ++ b → t3 ≡ t2 ++ c → t4 ≡ t3 ++ d → t5 ≡ t4 ++ e → t6 ≡ t5 ++ f
    → t6 ≡ a ++ b ++ c ++ d ++ e ++ f
six_parts a b c d e f t0 t1 t2 t3 t4 t5 t6 e0 e1 e2 e3 e4 e5 e6 = rw (e6, e5, e4, e3, e2, e1, e0) (simp append_assoc)

-- replies with the same parts
pub same-reply : (r s : Reply) → r.status ≡ s.status → r.phrase ≡ s.phrase → r.allowed ≡ s.allowed → r.kind ≡ s.kind → r.body ≡ s.body → r ≡ s
same-reply r s status phrase allowed kind body =
    ap (λ (x : ℕ). let q : Reply = record r { status = x } in q) status
    ∙ ap (λ (x : List ℕ). let q : Reply = record { status = s.status; phrase = x; allowed = r.allowed; kind = r.kind; body = r.body } in q) phrase
    ∙ ap (λ (x : Option Verb). let q : Reply = record { status = s.status; phrase = s.phrase; allowed = x; kind = r.kind; body = r.body } in q) allowed
    ∙ ap (λ (x : List ℕ). let q : Reply = record { status = s.status; phrase = s.phrase; allowed = s.allowed; kind = x; body = r.body } in q) kind
    ∙ ap (λ (x : List ℕ). let q : Reply = record { status = s.status; phrase = s.phrase; allowed = s.allowed; kind = s.kind; body = x } in q) body

-- what answers have in common
pub answer-allowed : (kind : AnswerKind) (line : List ℕ) → None ≡ (answer_reply kind line).allowed
answer-allowed Done line = refl
answer-allowed Conflict line = refl
answer-allowed Gateway line = refl

pub answer-kind : (kind : AnswerKind) (line : List ℕ) → codes "application/json" ≡ (answer_reply kind line).kind
answer-kind Done line = refl
answer-kind Conflict line = refl
answer-kind Gateway line = refl

pub answer-body : (kind : AnswerKind) (line : List ℕ) → json_text (codes "answer") line ≡ (answer_reply kind line).body
answer-body Done line = refl
answer-body Conflict line = refl
answer-body Gateway line = refl

-- and what refusals have
pub refusal-kind : (why : Refusal) → codes "application/json" ≡ (refusal_reply why).kind
refusal-kind refusal.Request = refl
refusal-kind refusal.Coding = refl
refusal-kind refusal.NotFound = refl
refusal-kind (refusal.Method verb) = refl
refusal-kind refusal.Length = refl
refusal-kind refusal.TooLong = refl

pub refusal-body : (why : Refusal) → json_text (codes "error") (refusal_word why) ≡ (refusal_reply why).body
refusal-body refusal.Request = refl
refusal-body refusal.Coding = refl
refusal-body refusal.NotFound = refl
refusal-body (refusal.Method verb) = refl
refusal-body refusal.Length = refl
refusal-body refusal.TooLong = refl
