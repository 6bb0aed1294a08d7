use Rattle.serving.proofs.CompleteLemmas.{serving_completes}
use Rattle.serving.proofs.CountedLemmas.{answers_within, tests_spend}
use Rattle.serving.proofs.InTurnLemmas.{serves_told}
use Rattle.serving.proofs.KeepingLemmas.{serving_keeps, serving_limit, serving_order, serving_devices}
use Rattle.serving.proofs.TalliedLemmas.{serving_shows}
use Rattle.serving.proofs.serving.serve_all.Goals as goal

pub returns-clause-keeps : goal.returns-clause-keeps
returns-clause-keeps g c = serving_keeps _ _ _ _ _ _ c.serve_each.ensures.serves c.records-records.ensures.standing

pub returns-clause-limit : goal.returns-clause-limit
returns-clause-limit g c = serving_limit _ _ _ _ _ _ c.serve_each.ensures.serves

pub returns-clause-order : goal.returns-clause-order
returns-clause-order g c = serving_order _ _ _ _ _ _ c.serve_each.ensures.serves

pub returns-clause-causes : goal.returns-clause-causes
returns-clause-causes g c =
    let devices = serving_devices _ _ _ _ _ _ c.serve_each.ensures.serves in
    record {
      out = c.serve_each.ensures.out_later;
      disk = devices.disk_later;
      rig = devices.rig_later;
      door = c.serve_each.ensures.door_later;
      write_fault = c.serve_each.ensures.out_cause;
      disk_fault = devices.disk_fault;
      not_at_zero = devices.not_zero;
      network_fault = c.serve_each.ensures.door_cause;
    }

pub returns-clause-in_order : goal.returns-clause-in_order
returns-clause-in_order g c = λ findings told. serves_told _ _ _ _ _ _ c.serve_each.ensures.serves c.records-records.ensures.standing findings told

pub returns-clause-tests : goal.returns-clause-tests
returns-clause-tests g c = λ tells. serving_shows _ _ _ _ _ _ c.serve_each.ensures.serves c.records-records.ensures.standing tells

pub returns-clause-answers : goal.returns-clause-answers
returns-clause-answers g c = answers_within _ _ _ _ _ _ c.serve_each.ensures.serves

pub returns-clause-complete : goal.returns-clause-complete
returns-clause-complete g c = serving_completes _ _ _ _ _ _ c.serve_each.ensures.serves _ _ (returns-clause-causes g c)

pub returns-clause-spent : goal.returns-clause-spent
returns-clause-spent g c = λ tells. tests_spend _ _ _ _ _ _ c.serve_each.ensures.serves tells
