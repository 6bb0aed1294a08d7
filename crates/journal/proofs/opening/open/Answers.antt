use Rattle.std.proofs.Common.{◌≡◌, length, sym, ◌∙◌, subst, arith}
use Rattle.std.proofs.lemmas.Result.{err_from_is_err_and}
use Rattle.std.proofs.lemmas.Grind.{common_steps}
use Rattle.journal.specs.Gates.{last_gate}
use Rattle.std.specs.Option.{ForSome}
use Rattle.journal.specs.Found.{IsFound, IsOrderly}
use Rattle.disk_edge.specs.Disk.{may_leave}
use Rattle.disk_edge.proofs.Moments.{nothing_new}
use Rattle.journal.specs.Opening.{MayOpen, AreRead}
use Rattle.journal.proofs.wholes.Opens.{refused_later, surveyed, created_leaves, closed_leaves, durable_found, kept_created, kept_closed, holds_closed, found_short, found_entries, not_of_the_disk, untouched}
use Rattle.journal.proofs.opening.open.Goals as goal

pub returns-in_err-sync-clause-any_moment : goal.returns-in_err-sync-clause-any_moment
returns-in_err-sync-clause-any_moment g c =
    let old = g.D.Disk.state c.args.disk.now in
    nothing_new old (g.D.Disk.state c.sync.new.self) (may_leave old) (MayOpen old) (λ _ left. left) c.sync.ensures.crash

pub returns-in_err-read-clause-refused : goal.returns-in_err-read-clause-refused
returns-in_err-read-clause-refused g c =
    let p = err_from_is_err_and c.from_residual-in_err-read.result c.from_residual-in_err-read.ensures.1 in
    rw (p.1, p.2) (refused_later (g.D.Disk.state c.args.disk.now) (g.D.Disk.state c.sync.new.self) (g.D.Disk.state c.read.new.disk) _ c.in_ok-sync.ensures.same c.sync.ensures.cause.later c.in_err-read.ensures.refused)

pub returns-in_err-read-clause-any_moment : goal.returns-in_err-read-clause-any_moment
returns-in_err-read-clause-any_moment g c =
    surveyed (g.D.Disk.state c.args.disk.now) (g.D.Disk.state c.sync.new.self) (g.D.Disk.state c.read.new.disk) (g.D.Disk.state c.read.new.disk) c.sync.ensures.crash c.in_ok-sync.ensures.same c.read.ensures.same

pub returns-in_err-create-in-Empty-clause-any_moment : goal.returns-in_err-create-in-Empty-clause-any_moment
returns-in_err-create-in-Empty-clause-any_moment g c =
    let old = g.D.Disk.state c.args.disk.now in
    let synced = g.D.Disk.state c.sync.new.self in
    let found = g.D.Disk.state c.read.new.disk in
    created_leaves old synced found (g.D.Disk.state c.create.new.disk) c.sync.ensures.crash c.in_ok-sync.ensures.same c.read.ensures.same
    (durable_found old synced found c.in_ok-sync.ensures.same c.sync.ensures.crash.honest c.read.ensures.same c.in_ok-sync.ensures.content)
    (λ file told. subst (IsFound file) c.in-Empty.is (c.in_ok-read.ensures.found file (sym c.read.ensures.same.reads_as ∙ told)))
    c.create.ensures.any_moment

pub returns-in_ok-create-in-Empty-clause-any_moment : goal.returns-in_ok-create-in-Empty-clause-any_moment
returns-in_ok-create-in-Empty-clause-any_moment g c =
    let old = g.D.Disk.state c.args.disk.now in
    let synced = g.D.Disk.state c.sync.new.self in
    let found = g.D.Disk.state c.read.new.disk in
    created_leaves old synced found (g.D.Disk.state c.create.new.disk) c.sync.ensures.crash c.in_ok-sync.ensures.same c.read.ensures.same
    (durable_found old synced found c.in_ok-sync.ensures.same c.sync.ensures.crash.honest c.read.ensures.same c.in_ok-sync.ensures.content)
    (λ file told. subst (IsFound file) c.in-Empty.is (c.in_ok-read.ensures.found file (sym c.read.ensures.same.reads_as ∙ told)))
    c.create.ensures.any_moment

pub returns-in_ok-create-in-Empty-clause-kept : goal.returns-in_ok-create-in-Empty-clause-kept
returns-in_ok-create-in-Empty-clause-kept g c =
    kept_created (g.D.Disk.state c.create.new.disk) c.in_ok-create-in-Empty.field-0.items c.in_ok-create-in-Empty.ensures.gates c.in_ok-create-in-Empty.ensures.entries c.in_ok-create-in-Empty.ensures.durable

pub returns-in_err-close-in-Entries-clause-any_moment : goal.returns-in_err-close-in-Entries-clause-any_moment
returns-in_err-close-in-Entries-clause-any_moment g c =
    let old = g.D.Disk.state c.args.disk.now in
    let synced = g.D.Disk.state c.sync.new.self in
    let found = g.D.Disk.state c.read.new.disk in
    let gates = c.in-Entries.gates.items in
    let orderly = subst IsOrderly c.in-Entries.is c.in_ok-read.ensures.orderly in
    let some = orderly.0.some in
    let end : c.index.result.now ≡ last_gate gates = grind (arith, common_steps) in
    let is : ForSome found.reads_as (λ file. (c.in-Entries.len ≡ length file) × AreRead file gates) = λ file told. subst (IsFound file) c.in-Entries.is (c.in_ok-read.ensures.found file (sym c.read.ensures.same.reads_as ∙ told)) in
    let durable = durable_found old synced found c.in_ok-sync.ensures.same c.sync.ensures.crash.honest c.read.ensures.same c.in_ok-sync.ensures.content in
    closed_leaves old synced found (g.D.Disk.state c.close.new.disk) c.sync.ensures.crash c.in_ok-sync.ensures.same c.read.ensures.same c.index.result.now gates durable (λ file told. (is file told).1) end c.close.ensures.any_moment

pub returns-in_ok-close-in-Entries-clause-any_moment : goal.returns-in_ok-close-in-Entries-clause-any_moment
returns-in_ok-close-in-Entries-clause-any_moment g c =
    let old = g.D.Disk.state c.args.disk.now in
    let synced = g.D.Disk.state c.sync.new.self in
    let found = g.D.Disk.state c.read.new.disk in
    let gates = c.in-Entries.gates.items in
    let orderly = subst IsOrderly c.in-Entries.is c.in_ok-read.ensures.orderly in
    let some = orderly.0.some in
    let end : c.index.result.now ≡ last_gate gates = grind (arith, common_steps) in
    let is : ForSome found.reads_as (λ file. (c.in-Entries.len ≡ length file) × AreRead file gates) = λ file told. subst (IsFound file) c.in-Entries.is (c.in_ok-read.ensures.found file (sym c.read.ensures.same.reads_as ∙ told)) in
    let durable = durable_found old synced found c.in_ok-sync.ensures.same c.sync.ensures.crash.honest c.read.ensures.same c.in_ok-sync.ensures.content in
    closed_leaves old synced found (g.D.Disk.state c.close.new.disk) c.sync.ensures.crash c.in_ok-sync.ensures.same c.read.ensures.same c.index.result.now gates durable (λ file told. (is file told).1) end c.close.ensures.any_moment

pub returns-in_ok-close-in-Entries-clause-kept : goal.returns-in_ok-close-in-Entries-clause-kept
returns-in_ok-close-in-Entries-clause-kept g c =
    let old = g.D.Disk.state c.args.disk.now in
    let synced = g.D.Disk.state c.sync.new.self in
    let found = g.D.Disk.state c.read.new.disk in
    let gates = c.in-Entries.gates.items in
    let orderly = subst IsOrderly c.in-Entries.is c.in_ok-read.ensures.orderly in
    let some = orderly.0.some in
    let end : c.index.result.now ≡ last_gate gates = grind (arith, common_steps) in
    let is : ForSome found.reads_as (λ file. (c.in-Entries.len ≡ length file) × AreRead file gates) = λ file told. subst (IsFound file) c.in-Entries.is (c.in_ok-read.ensures.found file (sym c.read.ensures.same.reads_as ∙ told)) in
    let durable = durable_found old synced found c.in_ok-sync.ensures.same c.sync.ensures.crash.honest c.read.ensures.same c.in_ok-sync.ensures.content in
    kept_closed found (g.D.Disk.state c.close.new.disk) c.index.result.now gates c.close.ensures.any_moment.tells (λ file told. (is file told).1) end c.in_ok-close-in-Entries.ensures.entries (c.in_ok-close-in-Entries.ensures.durable durable)

pub returns-in_ok-close-in-Entries-clause-entries : goal.returns-in_ok-close-in-Entries-clause-entries
returns-in_ok-close-in-Entries-clause-entries g c file told =
    let old = g.D.Disk.state c.args.disk.now in
    let synced = g.D.Disk.state c.sync.new.self in
    let found = g.D.Disk.state c.read.new.disk in
    let gates = c.in-Entries.gates.items in
    let orderly = subst IsOrderly c.in-Entries.is c.in_ok-read.ensures.orderly in
    let some = orderly.0.some in
    let end : c.index.result.now ≡ last_gate gates = grind (arith, common_steps) in
    let is : ForSome found.reads_as (λ file. (c.in-Entries.len ≡ length file) × AreRead file gates) = λ file told. subst (IsFound file) c.in-Entries.is (c.in_ok-read.ensures.found file (sym c.read.ensures.same.reads_as ∙ told)) in
    let durable = durable_found old synced found c.in_ok-sync.ensures.same c.sync.ensures.crash.honest c.read.ensures.same c.in_ok-sync.ensures.content in
    holds_closed found (g.D.Disk.state c.close.new.disk) c.index.result.now c.in-Entries.len gates orderly.2 (λ file told. (is file told).0) (λ file told. (is file told).1) end c.in_ok-close-in-Entries.ensures.entries file (c.read.ensures.same.reads_as ∙ c.in_ok-sync.ensures.same ∙ told)

pub returns-in_ok-create-in-Empty-clause-found : goal.returns-in_ok-create-in-Empty-clause-found
returns-in_ok-create-in-Empty-clause-found g c =
    found_short (g.D.Disk.state c.args.disk.now) (g.D.Disk.state c.read.new.disk) (c.read.ensures.same.reads_as ∙ c.in_ok-sync.ensures.same)
    (λ file told. subst (IsFound file) c.in-Empty.is (c.in_ok-read.ensures.found file (sym c.read.ensures.same.reads_as ∙ told)))

pub returns-in_ok-close-in-Entries-clause-found : goal.returns-in_ok-close-in-Entries-clause-found
returns-in_ok-close-in-Entries-clause-found g c =
    let old = g.D.Disk.state c.args.disk.now in
    let synced = g.D.Disk.state c.sync.new.self in
    let found = g.D.Disk.state c.read.new.disk in
    let gates = c.in-Entries.gates.items in
    let orderly = subst IsOrderly c.in-Entries.is c.in_ok-read.ensures.orderly in
    let some = orderly.0.some in
    let end : c.index.result.now ≡ last_gate gates = grind (arith, common_steps) in
    let is : ForSome found.reads_as (λ file. (c.in-Entries.len ≡ length file) × AreRead file gates) = λ file told. subst (IsFound file) c.in-Entries.is (c.in_ok-read.ensures.found file (sym c.read.ensures.same.reads_as ∙ told)) in
    let durable = durable_found old synced found c.in_ok-sync.ensures.same c.sync.ensures.crash.honest c.read.ensures.same c.in_ok-sync.ensures.content in
    found_entries old found c.in-Entries.len gates (c.read.ensures.same.reads_as ∙ c.in_ok-sync.ensures.same) orderly.2 orderly.3 (λ file told. (is file told).0) (λ file told. (is file told).1)

pub returns-in_err-sync-clause-untouched : goal.returns-in_err-sync-clause-untouched
returns-in_err-sync-clause-untouched g c =
    let p = err_from_is_err_and c.from_residual.result c.from_residual.ensures.1 in
    rw (p.1, p.2) (λ spoken. absurd (not_of_the_disk c.in_err-sync.field-0.0 spoken))

pub returns-in_err-read-clause-untouched : goal.returns-in_err-read-clause-untouched
returns-in_err-read-clause-untouched g c =
    let p = err_from_is_err_and c.from_residual-in_err-read.result c.from_residual-in_err-read.ensures.1 in
    rw (p.1, p.2) (λ spoken. untouched (g.D.Disk.state c.args.disk.now) (g.D.Disk.state c.sync.new.self) (g.D.Disk.state c.read.new.disk) c.sync.ensures.crash c.in_ok-sync.ensures.same c.read.ensures.same)

pub returns-in_err-create-in-Empty-clause-untouched : goal.returns-in_err-create-in-Empty-clause-untouched
returns-in_err-create-in-Empty-clause-untouched g c =
    let p = err_from_is_err_and c.from_residual-in_err-create-in-Empty.result c.from_residual-in_err-create-in-Empty.ensures.1 in
    rw (p.1, p.2) (λ spoken. absurd (not_of_the_disk c.in_err-create-in-Empty.field-0.0 spoken))

pub returns-in_err-close-in-Entries-clause-untouched : goal.returns-in_err-close-in-Entries-clause-untouched
returns-in_err-close-in-Entries-clause-untouched g c =
    let p = err_from_is_err_and c.from_residual-in_err-close-in-Entries.result c.from_residual-in_err-close-in-Entries.ensures.1 in
    rw (p.1, p.2) (λ spoken. absurd (not_of_the_disk c.in_err-close-in-Entries.field-0.0 spoken))
