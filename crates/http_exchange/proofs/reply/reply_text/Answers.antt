use Rattle.std.proofs.Common.{◌≡◌, ◌∙◌, ap, ◌++◌, List, ℕ, length}
use Rattle.http_exchange.specs.Replies.{first_line, allow_line, type_line, length_line, last_lines, reply_bytes}
use Rattle.http_exchange.proofs.ReplyLemmas.{six_parts}
use Rattle.http_exchange.proofs.reply.reply_text.Goals as goal

-- the line that was put behind is that line
put : (old new told line : List ℕ) → new ≡ old ++ told → told ≡ line → new ≡ old ++ line
put old new told line e same = e ∙ ap (λ (l : List ℕ). old ++ l) same

pub returns : goal.returns
unfolding reply_bytes
returns c =
    six_parts (first_line c.args.start.status c.args.start.phrase.now) (allow_line c.args.start.allowed) (type_line c.args.start.kind.now)
    (length_line (length c.args.body.now)) last_lines c.args.body.now
    c.new-text.result c.push_str.new.self c.push_str-2.new.self c.push_str-3.new.self c.push_str-4.new.self c.push_str-5.new.self c.push_str-6.new.self
    c.new-text.ensures
    (put _ _ _ _ c.in_ok-push_str.ensures.ok (c.as_str.ensures.value ∙ c.in_ok-first_line.ensures))
    (put _ _ _ _ c.in_ok-push_str-2.ensures.ok (c.as_str-2.ensures.value ∙ c.in_ok-allow_line.ensures))
    (put _ _ _ _ c.in_ok-push_str-3.ensures.ok (c.as_str-3.ensures.value ∙ c.in_ok-type_line.ensures))
    (put _ _ _ _ c.in_ok-push_str-4.ensures.ok (c.as_str-4.ensures.value ∙ c.in_ok-length_line.ensures))
    c.in_ok-push_str-5.ensures.ok
    c.in_ok-push_str-6.ensures.ok
