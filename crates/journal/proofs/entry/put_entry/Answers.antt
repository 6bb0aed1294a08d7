use Rattle.std.proofs.Common.{◌+◌, length, arith}
use Rattle.journal.proofs.writing.Entries.{first_leaves, both_leave, has_entry, room, if_ok}
use Rattle.journal.proofs.writing.Reach.{reach_of_one, reach_of_two}
use Rattle.journal.proofs.entry.put_entry.Goals as goal

pub returns-in_err-put-clause-any_moment : goal.returns-in_err-put-clause-any_moment
returns-in_err-put-clause-any_moment g c bodies body next =
    first_leaves (g.D.Disk.state c.args.disk.now) (g.D.Disk.state c.put.new.disk) (g.D.Disk.state c.put.new.disk) c.args.end c.args.bytes.now c.split_at.result.0.now c.split_at.result.1.now bodies body c.split_at.ensures.front c.split_at.ensures.back next c.put.ensures.any_moment

pub returns-in_err-put-clause-reach : goal.returns-in_err-put-clause-reach
returns-in_err-put-clause-reach g c =
    reach_of_one (g.D.Disk.state c.args.disk.now) (g.D.Disk.state c.put.new.disk) (c.args.end + 1) (length c.split_at.result.1.now) (c.args.end + length c.args.bytes.now) (omega arith) c.put.ensures.any_moment

pub put-requires-2 : goal.put-requires-2
put-requires-2 g c =
    room (g.D.Disk.state c.args.disk.now) (g.D.Disk.state c.put.new.disk) c.args.end c.split_at.result.1.now c.put.ensures.any_moment.tells c.requires.within c.in_ok-put.ensures.written

pub returns-clause-ok : goal.returns-clause-ok
returns-clause-ok g c bodies body next =
    if_ok c.put-2.result c.put-2.ensures.written (has_entry (g.D.Disk.state c.args.disk.now) (g.D.Disk.state c.put.new.disk) (g.D.Disk.state c.put-2.new.disk) c.args.end c.args.bytes.now c.split_at.result.0.now c.split_at.result.1.now bodies body c.split_at.ensures.front c.split_at.ensures.back next c.put.ensures.any_moment.tells c.put-2.ensures.any_moment.tells c.in_ok-put.ensures.written)

pub returns-clause-any_moment : goal.returns-clause-any_moment
returns-clause-any_moment g c bodies body next =
    both_leave (g.D.Disk.state c.args.disk.now) (g.D.Disk.state c.put.new.disk) (g.D.Disk.state c.put-2.new.disk) c.args.end c.args.bytes.now c.split_at.result.0.now c.split_at.result.1.now bodies body c.split_at.ensures.front c.split_at.ensures.back next c.in_ok-put.ensures.durable c.put.ensures.any_moment c.in_ok-put.ensures.written c.put-2.ensures.any_moment

pub returns-clause-reach : goal.returns-clause-reach
returns-clause-reach g c =
    reach_of_two (g.D.Disk.state c.args.disk.now) (g.D.Disk.state c.put.new.disk) (g.D.Disk.state c.put-2.new.disk) (c.args.end + 1) c.args.end (length c.split_at.result.0.now) (c.args.end + length c.args.bytes.now) c.split_at.result.1.now (omega arith) (omega arith) c.put.ensures.any_moment c.in_ok-put.ensures.written c.in_ok-put.ensures.durable c.put-2.ensures.any_moment
