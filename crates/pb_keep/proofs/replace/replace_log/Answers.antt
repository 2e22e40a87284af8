use Rattle.std.proofs.Common.{◌≡◌, ℕ, List, ◌++◌, None, IsTrue, inr, subst, sym, ap, ◌∙◌}
use Rattle.pb_keep.specs.Conversations.{keeper_view}
use Rattle.pb_keep.specs.Replaced.{IsReplacedBy}
use Rattle.pb_keep.specs.Words.{IsFirstTable, kept_table}
use Rattle.pb_keep.specs.declared.folder.NamedLog.TheVariants as files
use Rattle.pb_keep.proofs.Replacing.{begins_next, begun_with_fewer, is_replaced}
use Rattle.pb_keep.proofs.replace.replace_log.Goals as goal

pub returns-in-Ok-put_in_place-clause-replaced : goal.returns-in-Ok-put_in_place-clause-replaced
returns-in-Ok-put_in_place-clause-replaced g c = λ written known clean.
    let opened = c.put_in_place.ensures.known known in
    let begun = c.in-Ok.ensures.begun (c.open_new.ensures.known opened) in
    let new = c.in_ok-new.new in
    let old = kept_table c.args.keeper.now.state c.args.keeper.now.stats.items in
    let is_clean : IsTrue (g.F.LogDisk.Disk.is_clean new.log.disk) = subst (λ k. IsTrue (g.F.LogDisk.Disk.is_clean k.log.disk)) c.replace.ensures.after clean in
    let replaced = is_replaced c.files_have_one_list.ensures _ _ old _ _ _ _ begun.1 _ _ (keeper_view g.F.LogDisk.Disk.seen g.F.LogDisk.Disk.may_leave new written) (c.in_ok-new.ensures.opened written opened is_clean) c.in_ok-new.ensures.limit in
    (c.in-Ok-put_in_place.ensures.ok known, subst (λ k. IsReplacedBy c.args.limit c.args.manifest.now old c.in-Ok.versions (keeper_view g.F.LogDisk.Disk.seen g.F.LogDisk.Disk.may_leave k written)) (sym c.replace.ensures.after) replaced)

pub returns-in-Ok-put_in_place-clause-begins : goal.returns-in-Ok-put_in_place-clause-begins
returns-in-Ok-put_in_place-clause-begins g c = λ same own past changes first began leads known clean.
    let opened = c.put_in_place.ensures.known known in
    let begun = c.in-Ok.ensures.begun (c.open_new.ensures.known opened) in
    let new = c.in_ok-new.new in
    let old = kept_table c.args.keeper.now.state c.args.keeper.now.stats.items in
    let is_clean : IsTrue (g.F.LogDisk.Disk.is_clean new.log.disk) = subst (λ k. IsTrue (g.F.LogDisk.Disk.is_clean k.log.disk)) c.replace.ensures.after clean in
    subst (λ k. IsFirstTable (past ++ changes) (kept_table k.state k.stats.items)) (sym c.replace.ensures.after)
    (begins_next c.files_have_one_list.ensures _ _ old _ _ _ _ begun.1 _ _ (keeper_view g.F.LogDisk.Disk.seen g.F.LogDisk.Disk.may_leave new None) (c.in_ok-new.ensures.opened None opened is_clean) c.in_ok-new.ensures.limit c.snapshots_begin.ensures same own past changes first began leads)

pub returns-in-Err-put_in_place-clause-left : goal.returns-in-Err-put_in_place-clause-left
returns-in-Err-put_in_place-clause-left g c = λ known.
    let opened = c.put_in_place.ensures.known (c.close_new.ensures.known known) in
    let begun = c.in-Ok.ensures.begun (c.open_new.ensures.known opened) in
    let new = c.in_ok-new.new in
    let old = kept_table c.args.keeper.now.state c.args.keeper.now.stats.items in
    let is_clean : IsTrue (g.F.LogDisk.Disk.is_clean new.log.disk) = subst (λ l. IsTrue (g.F.LogDisk.Disk.is_clean l.disk)) c.close-log.ensures (c.close_new.ensures.clean known) in
    let replaced = is_replaced c.files_have_one_list.ensures _ _ old _ _ _ _ begun.1 _ _ (keeper_view g.F.LogDisk.Disk.seen g.F.LogDisk.Disk.may_leave new None) (c.in_ok-new.ensures.opened None opened is_clean) c.in_ok-new.ensures.limit in
    let seen : g.F.Folder.seen c.close_new.new.self ≡ g.F.LogDisk.Disk.seen new.log.disk = c.close_new.ensures.seen known ∙ ap (λ l. g.F.LogDisk.Disk.seen l.disk) c.close-log.ensures in
    let leaves : (file : List ℕ) → g.F.Folder.may_leave c.close_new.new.self file → g.F.LogDisk.Disk.may_leave new.log.disk file = λ file m. subst (λ l. g.F.LogDisk.Disk.may_leave l.disk file) c.close-log.ensures (c.close_new.ensures.may_leave known file m) in
    inr (c.in-Ok.versions, (new.log.end, begun_with_fewer _ _ _ _ _ _ _ _ _ seen leaves replaced.log))

pub returns-in-Ok-put_in_place-clause-versions : goal.returns-in-Ok-put_in_place-clause-versions
returns-in-Ok-put_in_place-clause-versions g c = c.in-Ok.ensures.versions
