use Rattle.std.proofs.Common.{◌≡◌, ℕ, ◌*◌, ◌≤◌, List, ◌++◌, length, take, drop, sym, ap, ◌∙◌, arith}
use Rattle.std.proofs.Math.Seq.{take-append_seam}
use Rattle.guest_ram.specs.Bytes.{part, with_part}
use Rattle.guest_ram.proofs.Bytes.{length-part, length-with_part}
use Rattle.guest_ram.proofs.Ram.exchange.Goals as goal

same_length : (old other : List ℕ) (n : ℕ) → n ≤ length old → n ≤ length other → length (with_part old 0 (part other 0 n)) ≡ length old
same_length old other n h i = let e = length-part other 0 n (omega arith) in length-with_part old 0 (part other 0 n) (omega arith)

-- the bytes that were lent come back exchanged, and fill their block
come_back : (len n : ℕ) (items old other mine theirs new : List ℕ) → len ≡ length items → items ≡ old → mine ≡ items → theirs ≡ other
    → new ≡ with_part mine 0 (part theirs 0 n) → n ≤ length old → n ≤ length other → take len (new ++ drop (length new) items) ≡ with_part
    old 0 (part other 0 n)
come_back len n items old other mine theirs new count view value theirs_value after h i =
    let e : new ≡ with_part old 0 (part other 0 n) = cc in
    let l : length new ≡ length old = ap length e ∙ same_length old other n h i in
    let fills : len ≡ length new = count ∙ (ap length view ∙ sym l) in
    ap (λ (k : ℕ). take k (new ++ drop (length new) items)) fills ∙ (take-append_seam new (drop (length new) items) ∙ e)

pub returns-clause-mine : goal.returns-clause-mine
returns-clause-mine c =
    come_back c.self.inside.memory.len (4096 * c.args.frames) c.self.inside.memory.items c.args.self.now c.args.other.now
    c.as_mut_slice.result.now c.as_mut_slice-2.result.now
    c.exchange_in.new.a c.self.inside.memory.count c.self.view_is c.as_mut_slice.ensures.value
    (c.as_mut_slice-2.ensures.value ∙ c.other.view_is)
    c.exchange_in.ensures.a c.requires.mine c.requires.theirs

pub returns-clause-theirs : goal.returns-clause-theirs
returns-clause-theirs c =
    come_back c.other.inside.memory.len (4096 * c.args.frames) c.other.inside.memory.items c.args.other.now c.args.self.now
    c.as_mut_slice-2.result.now c.as_mut_slice.result.now
    c.exchange_in.new.b c.other.inside.memory.count c.other.view_is c.as_mut_slice-2.ensures.value
    (c.as_mut_slice.ensures.value ∙ c.self.view_is)
    c.exchange_in.ensures.b c.requires.theirs c.requires.mine

pub returns-clause-len : goal.returns-clause-len
returns-clause-len c = (
  ap length (returns-clause-mine c) ∙ same_length c.args.self.now c.args.other.now (4096 * c.args.frames) c.requires.mine c.requires.theirs,
  ap length (returns-clause-theirs c) ∙ same_length c.args.other.now c.args.self.now (4096 * c.args.frames)
      c.requires.theirs c.requires.mine,
)
