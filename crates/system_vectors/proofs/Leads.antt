-- Where IRET leads, part by part, from a handler that was entered.
use Rattle.std.proofs.Common.{◌≡◌, ℕ, ◌+◌, ◌-◌, ◌/◌, ◌%◌, ◌^◌, ◌<◌, ◌≤◌, Bool, true, false, cond, arith, ap, ◌∙◌, Option, Some, None, List, [], ◌∷◌, length}
use Rattle.std.specs.Prelude.{nat_le, slice_index, slice_index_or, slice_set}
use Rattle.ia32_types.specs.declared.flags.Flags.{Flags}
use Rattle.ia32_types.specs.Bits.{bit}
use Rattle.ia32_types.specs.declared.flags.TheConstants.{INTERRUPT_AT}
use Rattle.ia32_types.specs.Flags.{flag_put}
use Rattle.std.proofs.lemmas.Bool.Decides.{nat_tests}
use Rattle.ia32_exec.specs.Stack.{is_foreign, taken}
use Rattle.descriptors.specs.declared.cpu.Cpu.{Cpu}
use Rattle.descriptors.specs.declared.cpu.Hidden.{Hidden}
use Rattle.event_entry.specs.declared.delivery.Entry.{Entry}
use Rattle.event_entry.specs.declared.delivery.Stack.{Stack}
use Rattle.event_entry.specs.Deliver.{code_len, outer_len, entered}
use Rattle.sys_exec.specs.Iret.{new_flags, is_within, with_interrupt, with_level}
use Rattle.system_vectors.specs.Resumed.{at_return}
use Rattle.system_vectors.proofs.FlagsBack.{flags_back, no_trap, no_nesting}
use Rattle.system_vectors.proofs.Segments.{set_set, set_same, index_set, length_set}

-- the place of what was pushed
abbrev pub top_from : Stack → Option ℕ → ℕ
top_from stack code = (stack.top + 2 ^ 32 - (12 + outer_len stack.inner + code_len code)) % 2 ^ 32

abbrev pub handler_at : Cpu → Option ℕ → Entry → Stack → Cpu
handler_at cpu code entry stack = at_return code (entered cpu entry stack (top_from stack code))

-- the processor with these parts
abbrev pub with_parts : Cpu → List ℕ → Flags → ℕ → List Hidden → Cpu
with_parts cpu r flags cpl seg =
    record cpu { regs = record { r = r; eip = cpu.regs.eip; flags = flags }; cpl = cpl; seg = seg; halted = false }

pub same_parts : (cpu : Cpu) (r r' : List ℕ) (f f' : Flags) (l l' : ℕ) (g g' : List Hidden) → r ≡ r' → f ≡ f' → l ≡ l' → g ≡ g'
    → with_parts cpu r f l g ≡ with_parts cpu r' f' l' g'
same_parts cpu r r' f f' l l' g g' a b c d =
    ap (λ x. with_parts cpu x f l g) a ∙ ap (λ x. with_parts cpu r' x l g) b ∙ ap (λ x. with_parts cpu r' f' x g) c
    ∙ ap (λ x. with_parts cpu r' f' l' x) d

-- ESP
pub registers_back : (r : List ℕ) (a b c : ℕ) → c ≡ slice_index r 4 → slice_set (slice_set (slice_set r 4 a) 4 b) 4 c ≡ r
registers_back r a b c e = set_set 4 b c (slice_set r 4 a) ∙ set_set 4 a c r ∙ ap (slice_set r 4) e ∙ set_same 4 r

pub top_is : (r : List ℕ) (a b : ℕ) → length r ≡ 8 → slice_index (slice_set (slice_set r 4 a) 4 b) 4 ≡ b
top_is r a b h = index_set (slice_set r 4 a) 4 b (rw (length_set 4 a r) (omega arith))

pub entered_top : (r : List ℕ) (a : ℕ) → length r ≡ 8 → slice_index (slice_set r 4 a) 4 ≡ a
entered_top r a h = index_set r 4 a (omega arith)

pub raised_back : (x n a top : ℕ) → x < 2 ^ 32 → n ≤ 4 → top ≡ (x + 2 ^ 32 - (12 + 0 + n)) % 2 ^ 32 → a ≡ top
    → ((a + n) % 2 ^ 32 + 12) % 2 ^ 32 ≡ x
raised_back x n a top small few t e = omega arith

pub code_len_few : (code : Option ℕ) → code_len code ≤ 4
code_len_few None = omega arith
code_len_few (Some c) = omega arith

-- EFLAGS; level 0 is within each IOPL
interrupt_taken : (h : Cpu) (f : Flags) (image : ℕ) → is_within h ≡ true → with_interrupt h f image ≡ flag_put f INTERRUPT_AT
    (bit image INTERRUPT_AT)
interrupt_taken h f image e = ap (λ c. cond c (flag_put f INTERRUPT_AT (bit image INTERRUPT_AT)) f) e

none_below : (n : ℕ) → nat_le 0 n ≡ true
none_below n = grind (arith, nat_tests)

pub all_flags_back : (cpu : Cpu) (code : Option ℕ) (entry : Entry) (stack : Stack) → cpu.regs.flags.bits < 2 ^ 32
    → is_foreign cpu.regs.flags.bits ≡ false →
    new_flags (handler_at cpu code entry stack) cpu.regs.flags.bits ≡ cpu.regs.flags
unfolding new_flags
all_flags_back cpu code entry stack small plain =
    let h = handler_at cpu code entry stack in
    let f = cpu.regs.flags.bits in
    ap (λ g. with_level h g f) (interrupt_taken h (taken h.regs.flags f) f (none_below (h.regs.flags.bits / 4096 % 4)))
    ∙ ap (λ (b : ℕ). let g : Flags = record { bits = b } in g) (flags_back f entry.keeps small (no_trap f plain) (no_nesting f plain))

-- segments at the same level
pub segments_back : (g : List Hidden) (a b c d : Hidden) → length g ≡ 4 → c ≡ slice_index_or g 1 d → b ≡ slice_index_or g 2 d
    → slice_set (slice_set (slice_set g 1 a) 2 b) 1 c ≡ g
segments_back [] a b c d l p q = absurd (omega arith)
segments_back (x ∷ []) a b c d l p q = absurd (omega arith)
segments_back (x ∷ y ∷ []) a b c d l p q = absurd (omega arith)
segments_back (x ∷ y ∷ z ∷ g) a b c d l p q = ap (λ h. x ∷ h ∷ b ∷ g) p ∙ ap (λ h. x ∷ y ∷ h ∷ g) q

-- and from level 3
pub user_segments_back : (g : List Hidden) (a b c s d : Hidden) (k : Hidden → Hidden) → length g ≡ 4 → c ≡ slice_index_or g 1 d
    → s ≡ slice_index_or g 2 d →
    slice_set
    (slice_set (slice_set (slice_set (slice_set (slice_set g 1 a) 2 b) 0 (k (slice_index_or (slice_set (slice_set g 1 a) 2 b) 0 d))) 3
    (k (slice_index_or (slice_set (slice_set g 1 a) 2 b) 3 d))) 1 c) 2 s
    ≡ slice_set (slice_set g 0 (k (slice_index_or g 0 d))) 3 (k (slice_index_or g 3 d))
user_segments_back [] a b c s d k l p q = absurd (omega arith)
user_segments_back (x ∷ []) a b c s d k l p q = absurd (omega arith)
user_segments_back (x ∷ y ∷ []) a b c s d k l p q = absurd (omega arith)
user_segments_back (x ∷ y ∷ z ∷ []) a b c s d k l p q = absurd (omega arith)
user_segments_back (x ∷ y ∷ z ∷ w ∷ g) a b c s d k l p q = ap (λ h. k x ∷ h ∷ s ∷ k w ∷ g) p ∙ ap (λ h. k x ∷ y ∷ h ∷ k w ∷ g) q
