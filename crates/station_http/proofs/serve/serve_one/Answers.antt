use Rattle.station_http.proofs.OrderLemmas.{served_order, served_standing}
use Rattle.station_http.proofs.RepliesLemmas.{served_replies}
use Rattle.station_http.proofs.RigLeftLemmas.{served_does}
use Rattle.station_http.proofs.serve.serve_one.Goals as goal

pub returns-clause-replies : goal.returns-clause-replies
returns-clause-replies g c =
    served_replies _ _ c.args.station _ _ _ _ c.read_and_reply.result c.records-records.ensures.standing.images c.read_and_reply.ensures

pub returns-clause-standing : goal.returns-clause-standing
returns-clause-standing g c = served_standing _ _ c.args.station _ _ _ _ c.read_and_reply.result c.read_and_reply.ensures c.records-records.ensures.standing

pub returns-clause-order : goal.returns-clause-order
returns-clause-order g c = served_order _ _ c.args.station _ _ _ _ c.read_and_reply.result c.read_and_reply.ensures

pub returns-clause-at_zero : goal.returns-clause-at_zero
returns-clause-at_zero g c = (served_does _ _ c.args.station _ _ _ _ c.read_and_reply.result c.records-records.ensures.standing c.read_and_reply.ensures).1

pub returns-clause-rig : goal.returns-clause-rig
returns-clause-rig g c = (served_does _ _ c.args.station _ _ _ _ c.read_and_reply.result c.records-records.ensures.standing c.read_and_reply.ensures).0
