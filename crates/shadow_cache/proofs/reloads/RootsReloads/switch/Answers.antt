use Rattle.shadow_cache.specs.Roots.{pairs_of}
use Rattle.shadow_cache.specs.Standing.{stood}
use Rattle.shadow_cache.proofs.Reloading.{reloaded, reloaded-write_protected}
use Rattle.shadow_cache.proofs.Openings.{loaded-has_tables_under}
use Rattle.shadow_tables.specs.Slots.{slot_at}
use Rattle.shadow_cache.specs.Pairs.{reads}
use Rattle.shadow_cache.specs.OtherRoots.{other_roots_of}
use Rattle.shadow_cache.proofs.LoadSeen.{loaded_seen}
use Rattle.shadow_cache.proofs.reloads.RootsReloads.switch.Goals as goal

pub returns-clause-sight : goal.returns-clause-sight
returns-clause-sight c =
    let r = c.args.self.now in
    let x = reloaded c.args.cr3 r.present r.others (pairs_of c.switch.new.self) c.args.ram.now c.switch.new.ram
    (stood r c.args.ram.now c.requires.stands).roots.unmarked c.switch.ensures.switched in
    loaded_seen c.args.cr3 r.present.cr3 r.present.stale _ (reads r.present) _ (slot_at r.present.shadow c.args.ram.now) _
    (other_roots_of r.others c.args.ram.now) _ _ x.value x.stale x.present x.other_roots

pub returns-clause-loads : goal.returns-clause-loads
returns-clause-loads c =
    let r = c.args.self.now in
    (reloaded c.args.cr3 r.present r.others (pairs_of c.switch.new.self) c.args.ram.now c.switch.new.ram
    (stood r c.args.ram.now c.requires.stands).roots.unmarked c.switch.ensures.switched).value

pub returns-clause-stale : goal.returns-clause-stale
returns-clause-stale c =
    let r = c.args.self.now in
    (reloaded c.args.cr3 r.present r.others (pairs_of c.switch.new.self) c.args.ram.now c.switch.new.ram
    (stood r c.args.ram.now c.requires.stands).roots.unmarked c.switch.ensures.switched).stale

pub returns-clause-present : goal.returns-clause-present
returns-clause-present c =
    let r = c.args.self.now in
    (reloaded c.args.cr3 r.present r.others (pairs_of c.switch.new.self) c.args.ram.now c.switch.new.ram
    (stood r c.args.ram.now c.requires.stands).roots.unmarked c.switch.ensures.switched).present

pub returns-clause-other_roots : goal.returns-clause-other_roots
returns-clause-other_roots c =
    let r = c.args.self.now in
    (reloaded c.args.cr3 r.present r.others (pairs_of c.switch.new.self) c.args.ram.now c.switch.new.ram
    (stood r c.args.ram.now c.requires.stands).roots.unmarked c.switch.ensures.switched).other_roots

pub returns-clause-write_protected : goal.returns-clause-write_protected
returns-clause-write_protected c = let r = c.args.self.now in
    reloaded-write_protected c.args.cr3 r.present r.others (pairs_of c.switch.new.self) c.args.ram.now c.switch.new.ram
    c.switch.ensures.switched

pub returns-clause-has_tables_under : goal.returns-clause-has_tables_under
returns-clause-has_tables_under c = λ indices h.
    let r = c.args.self.now in loaded-has_tables_under indices r.present r.others (pairs_of c.switch.new.self) c.args.ram.now
    c.switch.new.ram c.args.cr3 c.switch.ensures.switched h
