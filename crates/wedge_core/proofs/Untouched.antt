-- What is kept may be used again after what the host writes: its views let no write pass to a table.
use Rattle.std.proofs.Common.{◌≡◌, ℕ, ◌+◌, ◌*◌, ◌/◌, ◌%◌, ◌^◌, ◌<◌, ◌≤◌, List, [], ◌∷◌, length, Bool, true, false, cond, Option, Some, None, refl, sym, ap, subst, ◌∙◌, arith}
use Rattle.std.specs.Prelude.{nat_le}
use Rattle.std.proofs.lemmas.Bool.{and_parts}
use Rattle.guest_ram.specs.Bytes.{frame, word32}
use Rattle.guest_ram.proofs.Bytes.{word32-frame}
use Rattle.descriptors.specs.Controls.{pse_of, wp_of}
use Rattle.descriptors.specs.declared.cpu.Cpu.{Cpu}
use Rattle.paging.specs.Reached.{reached}
use Rattle.shadow_tables.specs.OtherRoot.{OtherRoot, AreSame, AllProtected}
use Rattle.shadow_tables.specs.Host.{lent, frame_below}
use Rattle.guest_ram.specs.Among.{is_among}
use Rattle.shadow_tables.specs.Slots.{Slot, is_side, is_adequate, SameSlots}
use Rattle.shadow_tables.specs.declared.words.Side.{Side}
use Rattle.shadow_tables.specs.declared.shadows.Shadows as shadows
use Rattle.machine_model.specs.Reloading.{IsFoundBy}
use Rattle.machine_model.specs.State.{Setting}
use Rattle.native_steps.specs.Lends.{IsUnlent}
use Rattle.native_steps.specs.Mirrors.{IsWedge, IsHost, shown}
use Rattle.native_steps.proofs.Shown.{shown_length}
use Rattle.wedge_step.specs.Ready.{AreReady, IsReady}
use Rattle.wedge_step.proofs.Bools.{none_some, clash}
use Rattle.wedge_core.proofs.HostWrites.{found_on}
use Rattle.wedge_step.proofs.Readying.{all_rules}
use Rattle.wedge_step.proofs.Shedding.{same_shed, all_ready_shed}

-- ---- the frame to which a slot lets a write pass

below_is : (n f at : ℕ) (b : Bool) → cond b None (Some f) ≡ Some at → f ≡ at
below_is n f at true e = absurd (none_some at e)
below_is n f at false e = cc

slot_writes : (n at : ℕ) (slot : Slot) (side : Side) (b : Bool) → is_adequate (Some slot) side true ≡ b
    → cond b (frame_below n slot.entry.frame) None ≡ Some at → (slot.writes ≡ true) × (slot.entry.frame ≡ at)
slot_writes n at slot side false e h = absurd (none_some at h)
slot_writes n at slot side true e h =
    ((and_parts (is_side slot.side side) slot.writes e).1, below_is n slot.entry.frame at (nat_le n slot.entry.frame) h)

-- the slot that lends it
pub record Writes (o : Option Slot) (at : ℕ) : Type 0 where
  pub slot : Slot
  pub there : o ≡ Some slot
  pub writes : slot.writes ≡ true
  pub leads : slot.entry.frame ≡ at

pub lent_writes : (n at : ℕ) (o : Option Slot) (side : Side) → lent n o side true ≡ Some at → Writes o at
lent_writes n at None side h = absurd (none_some at h)
lent_writes n at (Some slot) side h = let w =
    slot_writes n at slot side (is_adequate (Some slot) side true) refl h in record { slot = slot; there = refl; writes = w.0; leads = w.1 }

-- ---- words in frames that are as they were

same_word : (ram then : List ℕ) (at : ℕ) → at % 4 ≡ 0 → frame then (at / 4096) ≡ frame ram (at / 4096) → word32 then at ≡ word32 ram at
same_word ram then at even same =
    let e : at ≡ 4096 * (at / 4096) + at % 4096 = omega arith in
    let fits : at % 4096 + 4 ≤ 4096 = omega (arith, even) in
    ap (word32 then) e ∙ (word32-frame then ram (at / 4096) (at % 4096) same fits ∙ ap (word32 ram) (sym e))

roots_on : (m : Setting) (cpu : Cpu) (ram then : List ℕ) (size : length then ≡ length ram) (room : 4096 * m.frames ≤ length ram)
    (long : length ram ≤ 4096 * m.frames) (test : ℕ → Bool)
    → ((f : ℕ) → test f ≡ true → frame then f ≡ frame ram f) → (other_roots : List OtherRoot) → AllProtected test other_roots
    → AreReady m cpu ram other_roots → AreReady m cpu then other_roots
roots_on m cpu ram then size room long test same [] t h = tt
roots_on m cpu ram then size room long test same (a ∷ other_roots) t h = (
  record {
    found = λ page lt slot e.
        found_on m ram then size room long a.tables (λ at even within k. same_word ram then at even (same (at / 4096) (t.0 (at / 4096) k)))
        a.cr3 (pse_of cpu) page slot.entry lt (h.0.found page lt slot e);
    open_to = h.0.open_to;
  },
  roots_on m cpu ram then size room long test same other_roots t.1 h.1,
)

module _ {S : Type 0} (shows : shadows.Ghosts S) where
  -- the laws of shadows that speak of tables
  pub record Protects : Type 0 where
    pub host : (s : S) (m : List ℕ) (n : ℕ) (side : Side) (page : ℕ) (write : Bool) → ∥ shows.stands s m ∥₁ → 4096 * n ≡ length m
        → page < 2 ^ 20 → reached m n (shows.directory s side) page write ≡ lent n (shows.slots s m page) side write
    pub barred : (s : S) (m : List ℕ) (page : ℕ) (slot : Slot) → ∥ shows.stands s m ∥₁ → page < 2 ^ 20 → shows.slots s m page ≡ Some slot
        → is_among slot.entry.frame (shows.write_protected s) ≡ true → slot.writes ≡ false
    pub read_from_is_protected : (s : S) (frame : ℕ) → shows.stale s ≡ false → shows.read_from s frame ≡ true
        → is_among frame (shows.write_protected s) ≡ true
    pub other_roots_protected : (s : S) (m : List ℕ) → AllProtected (λ f. is_among f (shows.write_protected s)) (shows.other_roots s m)

  module _ (laws : Protects) where
    -- no view lets a write pass to a write-protected frame
    pub unlent : (s : S) (m : List ℕ) (side : Side) (at : ℕ) → ∥ shows.stands s m ∥₁ → length m % 4096 ≡ 0
        → is_among at (shows.write_protected s) ≡ true → IsUnlent m (shows.directory s side) at
    unlent s m side at stand whole t page lt h =
        let all : 4096 * (length m / 4096) ≡ length m = omega (arith, whole) in
        let w = lent_writes (length m / 4096) at (shows.slots s m page) side
        (sym (laws.host s m (length m / 4096) side page true stand all lt) ∙ h) in
        clash w.slot.writes w.writes
        (laws.barred s m page w.slot stand lt w.there (ap (λ (f : ℕ). is_among f (shows.write_protected s)) w.leads ∙ t))

    -- so what is kept is found again, where no write-protected frame has changed
    pub ready_on : (m : Setting) (wedge : IsWedge m) (before after : Cpu) (s : S) (memory then : List ℕ) → IsHost m memory → IsHost m
        then → after.cr3 ≡ before.cr3 → pse_of after ≡ pse_of before → wp_of after ≡ wp_of before
        → ((at : ℕ) → is_among at (shows.write_protected s) ≡ true → frame (shown m then) at ≡ frame (shown m memory) at)
        → SameSlots (shows.slots s memory) (shows.slots s then) → AreSame (shows.other_roots s memory) (shows.other_roots s then)
        → IsReady shows m before s memory → IsReady shows m after s then
    ready_on m wedge before after s memory then host host_then cr3 pse wp same slots_same other_roots_same h =
        let ram = shown m memory in
        let new = shown m then in
        let a = shown_length m wedge memory host in
        let b = shown_length m wedge then host_then in
        let size : length new ≡ length ram = omega (arith, a, b) in
        let room : 4096 * m.frames ≤ length ram = omega (arith, a) in
        let long : length ram ≤ 4096 * m.frames = omega (arith, a) in
        record {
          cr3_is = h.cr3_is ∙ ap (λ (c : ℕ). Some c) (sym cr3);
          present = λ un page lt o slot e.
              let here = h.present un page lt refl slot (sym (slots_same page lt) ∙ e) in
              let there = found_on m ram new size room long (shows.read_from s)
              (λ at even within k. same_word ram new at even (same (at / 4096) (laws.read_from_is_protected s (at / 4096) un k))) before.cr3
              (pse_of before) page slot.entry lt here in
              subst (λ (b : Bool). IsFoundBy new m.frames after.cr3 b (shows.read_from s) page slot.entry) (sym pse)
              (subst (λ (c : ℕ). IsFoundBy new m.frames c (pse_of before) (shows.read_from s) page slot.entry) (sym cr3) there);
          others = all_rules m before after new (shows.other_roots s then) pse wp
              (all_ready_shed m before new (shows.other_roots s memory) (shows.other_roots s then)
              (same_shed (shows.other_roots s memory) (shows.other_roots s then) other_roots_same)
              (roots_on m before ram new size room long (λ f. is_among f (shows.write_protected s)) same (shows.other_roots s memory)
              (laws.other_roots_protected s memory) h.others));
        }
