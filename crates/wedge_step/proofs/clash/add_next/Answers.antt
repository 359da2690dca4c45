use Rattle.std.proofs.Common.{◌==◌, refl, ◌∙◌}
use Rattle.native_steps.specs.Looking.{marked, next_seen}
use Rattle.wedge_step.specs.Clashing.{looked, marks_of, seen_of, model_uses}
use Rattle.wedge_step.specs.Looked.{bytes_of, ground_of, set_at}
use Rattle.wedge_step.proofs.LookedUses.{on_next, no_ranges_more}
use Rattle.wedge_step.proofs.clash.add_next.Goals as goal

pub returns-in-Insn : goal.returns-in-Insn
returns-in-Insn g c =
    let a = c.args in
    let ram = bytes_of a.view.now in
    let b = looked a.cpu.now ram (set_at g.S.Shadows a.shadows.now a.view.now) in
    on_next (next_seen (ground_of a.view.now) b (seen_of a.first)) b (marked ram (marks_of a.first.marks)) a.bytes.now.items _
    (seen_of c.in-Some.second) a.uses.now.items c.push.new.self.items _ _ _ refl
    c.requires.one c.push.ensures.items c.in-Some.ensures.seen (c.as_slice.ensures.value ∙ c.read.ensures) c.in-Insn.ensures.exact
    c.add_ranges.ensures.uses

pub returns-in_default-decode : goal.returns-in_default-decode
returns-in_default-decode g c =
    let a = c.args in
    let ram = bytes_of a.view.now in
    let b = looked a.cpu.now ram (set_at g.S.Shadows a.shadows.now a.view.now) in
    on_next (next_seen (ground_of a.view.now) b (seen_of a.first)) b (marked ram (marks_of a.first.marks)) a.bytes.now.items _
    (seen_of c.in-Some.second) a.uses.now.items c.push.new.self.items _ _ _ refl
    c.requires.one c.push.ensures.items c.in-Some.ensures.seen (c.as_slice.ensures.value ∙ c.read.ensures) c.decode.ensures.exact
    (no_ranges_more b c.decode.result (model_uses (a.cpu.now.cpl == 3) c.push.new.self.items) c.in_default-decode.not-Insn)

pub fetched_next-requires-clause-stands : goal.fetched_next-requires-clause-stands
fetched_next-requires-clause-stands g c = c.requires.stands

pub fetched_next-requires-clause-kept : goal.fetched_next-requires-clause-kept
fetched_next-requires-clause-kept g c = c.requires.kept

pub fetched_next-requires-clause-marks : goal.fetched_next-requires-clause-marks
fetched_next-requires-clause-marks g c = c.requires.marks

pub fetched_next-requires-clause-frame : goal.fetched_next-requires-clause-frame
fetched_next-requires-clause-frame g c = c.requires.frame

pub fetched_next-requires-clause-page : goal.fetched_next-requires-clause-page
fetched_next-requires-clause-page g c = c.requires.page

pub read-requires-clause-earlier : goal.read-requires-clause-earlier
read-requires-clause-earlier g c = c.requires.marks

pub read-requires-clause-marks : goal.read-requires-clause-marks
read-requires-clause-marks g c = c.in-Some.ensures.marks

pub read-requires-clause-frame : goal.read-requires-clause-frame
read-requires-clause-frame g c = c.in-Some.ensures.frame

pub read-requires-clause-room : goal.read-requires-clause-room
read-requires-clause-room g c = c.requires.few
