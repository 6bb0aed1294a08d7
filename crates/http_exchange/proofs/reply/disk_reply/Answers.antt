use Rattle.std.proofs.Common.{rules}
use Rattle.std.specs.Fmt.{digits}
use Rattle.http_exchange.specs.Replies.{reply_bytes}
use Rattle.http_exchange.proofs.reply.disk_reply.Goals as goal

pub returns : goal.returns
unfolding digits reply_bytes
returns c = search rules
