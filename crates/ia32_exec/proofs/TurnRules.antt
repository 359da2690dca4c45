-- Numbers in a memory that is a number for each address, and string instructions repeated.
use Rattle.std.proofs.Common.{◌≡◌, ℕ, zero, suc, ◌+◌, ◌-◌, ◌*◌, ◌/◌, ◌%◌, ◌^◌, ◌<◌, ◌≤◌, Bool, true, false, ◌&&◌, cond, eqb, refl, sym, ap, ◌∙◌, subst, arith, inl, inr, ◌⊎◌, List, [], ◌∷◌, ◌++◌, length, slice_index, slice_set}
use Rattle.std.specs.Prelude.{nat_le, nat_lt}
use Rattle.std.proofs.lemmas.Bool.Decides.{nat_tests, eqb_tells}
use Rattle.ia32_types.specs.declared.size.Size.{Size}
use Rattle.ia32_types.specs.declared.size.Size.TheVariants.{Byte, Word, Long}
use Rattle.ia32_types.specs.declared.flags.Regs.{Regs}
use Rattle.ia32_types.specs.declared.flags.Flags.{Flags}
use Rattle.ia32_types.specs.declared.insn.Insn.{Insn}
use Rattle.ia32_types.specs.declared.insn.Op.{Op}
use Rattle.ia32_types.specs.declared.insn.Op.TheVariants.{Movs, Stos, Lods, Push, Pop, Pusha, Popa}
use Rattle.ia32_types.specs.declared.insn.Operand.TheVariants.{Register}
use Rattle.ia32_exec.specs.declared.outcome.Store.{Store}
use Rattle.ia32_exec.specs.declared.outcome.Stores.{Stores}
use Rattle.ia32_exec.specs.declared.outcome.Stores.TheVariants.{Nothing}
use Rattle.ia32_exec.specs.declared.outcome.Outcome.TheVariants.{Done}
use Rattle.ia32_exec.specs.Memory.{number_at, store}
use Rattle.ia32_exec.specs.Commit.{list_of, longs_to}
use Rattle.ia32_exec.specs.Effect.{effect, row}
use Rattle.ia32_exec.specs.Operands.{source_of, to_destination, done}
use Rattle.ia32_exec.specs.Registers.{register_value, with_register, with_whole, eip_past}
use Rattle.ia32_exec.specs.Stack.{pushed, pushed_number, popped, esp_below, esp_above, all_pushed, all_popped}
use Rattle.ia32_exec.specs.Strings.{turn, counted, string}
use Rattle.ia32_exec.specs.Readable.{IsString}
use Rattle.ia32_exec.specs.Turns.{written, all_written, RegsAndBytes, committed, after, turns, IsWhole, IsCountedOut}

-- a byte of a number that was written, and one beside it
inside : (at v j : ℕ) (b : ℕ → ℕ) → j < 4 → written (store at Long v) b (at + j) ≡ v / 2 ^ (8 * j) % 2 ^ 8
inside at v j b l =
    let t : (nat_le at (at + j) && nat_lt (at + j) (at + 4)) ≡ true = grind (arith, nat_tests) in
    let d : at + j - at ≡ j = omega arith in
    ap (λ c. cond c (v / 2 ^ (8 * (at + j - at)) % 2 ^ 8) (b (at + j))) t ∙ ap (λ k. v / 2 ^ (8 * k) % 2 ^ 8) d

outside : (at v k : ℕ) (b : ℕ → ℕ) → (k < at) ⊎ (at + 4 ≤ k) → written (store at Long v) b k ≡ b k
outside at v k b (inl l) =
    let t : (nat_le at k && nat_lt k (at + 4)) ≡ false = grind (arith, nat_tests) in
    ap (λ c. cond c (v / 2 ^ (8 * (k - at)) % 2 ^ 8) (b k)) t
outside at v k b (inr l) =
    let t : (nat_le at k && nat_lt k (at + 4)) ≡ false = grind (arith, nat_tests) in
    ap (λ c. cond c (v / 2 ^ (8 * (k - at)) % 2 ^ 8) (b k)) t

-- four bytes make a number
of_bytes : (v : ℕ) → v < 2 ^ 32 → v % 2 ^ 8 + v / 2 ^ 8 % 2 ^ 8 * 2 ^ 8 + v / 2 ^ 16 % 2 ^ 8 * 2 ^ 16 + v / 2 ^ 24 % 2 ^ 8 * 2 ^ 24 ≡ v
of_bytes v l = omega arith

first : (at v : ℕ) (b : ℕ → ℕ) → written (store at Long v) b at ≡ v % 2 ^ 8
first at v b =
    let e : at + 0 ≡ at = omega arith in
    let d : v / 2 ^ (8 * 0) ≡ v = omega arith in
    ap (written (store at Long v) b) (sym e) ∙ inside at v 0 b (omega arith) ∙ ap (λ k. k % 2 ^ 8) d

four : (a b c d a' b' c' d' : ℕ) → a ≡ a' → b ≡ b' → c ≡ c' → d ≡ d' →
    a + b * 2 ^ 8 + c * 2 ^ 16 + d * 2 ^ 24 ≡ a' + b' * 2 ^ 8 + c' * 2 ^ 16 + d' * 2 ^ 24
four a b c d a' b' c' d' p q r s = cc

-- a number that was written is read again
pub read_back : (at v : ℕ) (b : ℕ → ℕ) → v < 2 ^ 32 → number_at (written (store at Long v) b) Long at ≡ v
read_back at v b l =
    let m : ℕ → ℕ = written (store at Long v) b in
    four (m at) (m (at + 1)) (m (at + 2)) (m (at + 3)) (v % 2 ^ 8) (v / 2 ^ 8 % 2 ^ 8) (v / 2 ^ 16 % 2 ^ 8) (v / 2 ^ 24 % 2 ^ 8)
    (first at v b) (inside at v 1 b (omega arith)) (inside at v 2 b (omega arith)) (inside at v 3 b (omega arith))
    ∙ of_bytes v l

-- and one beside it is as it was
beside : (at v x : ℕ) (b : ℕ → ℕ) → x + 4 ≤ at → number_at (written (store at Long v) b) Long x ≡ number_at b Long x
beside at v x b l =
    let m : ℕ → ℕ = written (store at Long v) b in
    four (m x) (m (x + 1)) (m (x + 2)) (m (x + 3)) (b x) (b (x + 1)) (b (x + 2)) (b (x + 3))
    (outside at v x b (inl (omega arith))) (outside at v (x + 1) b (inl (omega arith))) (outside at v (x + 2) b (inl (omega arith)))
    (outside at v (x + 3) b (inl (omega arith)))

written-last : (ws : List Store) (w : Store) (b : ℕ → ℕ) → all_written (ws ++ (w ∷ [])) b ≡ written w (all_written ws b)
written-last [] w b = refl
written-last (x ∷ ws) w b = written-last ws w (written x b)

pub longs_back : (n at : ℕ) (vs : List ℕ) (b : ℕ → ℕ) (k : ℕ) → k < n → slice_index vs k < 2 ^ 32 →
    number_at (all_written (longs_to n at vs) b) Long (at + 4 * k) ≡ slice_index vs k
longs_back zero at vs b k l s = absurd (omega arith)
longs_back (suc n) at vs b k l s =
    let m : ℕ → ℕ = all_written (longs_to n at vs) b in
    ap (λ x. number_at x Long (at + 4 * k)) (written-last (longs_to n at vs) (store (at + 4 * n) Long (slice_index vs n)) b)
    ∙ elim (eqb_tells k n) [
      | inl is ↦
          let P : ℕ → Type 0 =
          λ j. number_at (written (store (at + 4 * j) Long (slice_index vs j)) m) Long (at + 4 * k) ≡ slice_index vs k in
          subst P is.1 (read_back (at + 4 * k) (slice_index vs k) m s)
      | inr isnt ↦
          let under : k < n = omega (arith, isnt.1) in
          beside (at + 4 * n) (slice_index vs n) (at + 4 * k) m (omega arith) ∙ longs_back n at vs b k under s
    ]

-- the stack pointer lowered and raised again
pub back_up : (n x : ℕ) → n ≤ 2 ^ 31 → x < 2 ^ 32 → ((x + (2 ^ 32 - n)) % 2 ^ 32 + n) % 2 ^ 32 ≡ x
back_up n x l s = omega arith

set_set : (i v w : ℕ) (g : List ℕ) → slice_set (slice_set g i v) i w ≡ slice_set g i w
set_set i v w [] = refl
set_set zero v w (x ∷ g) = refl
set_set (suc i) v w (x ∷ g) = ap (λ h. x ∷ h) (set_set i v w g)

set_same : (i : ℕ) (g : List ℕ) → slice_set g i (slice_index g i) ≡ g
set_same i [] = refl
set_same zero (x ∷ g) = refl
set_same (suc i) (x ∷ g) = ap (λ h. x ∷ h) (set_same i g)

index_set : (g : List ℕ) (i v : ℕ) → i < length g → slice_index (slice_set g i v) i ≡ v
index_set [] i v l = absurd (omega arith)
index_set (x ∷ g) zero v l = refl
index_set (x ∷ g) (suc i) v l = index_set g i v (omega arith)

after_row : (i : Insn) (o : Op) (len : ℕ) (m : RegsAndBytes) → i.op ≡ o → after i len m ≡ committed (row o i len m.regs m.bytes) m
unfolding after effect
after_row i o len m e = ap (λ p. committed (row p i len m.regs m.bytes) m) e

landed : (pop : Insn) (n l v : ℕ) (p : RegsAndBytes) → pop.a ≡ Register n → number_at p.bytes Long (slice_index p.regs.r 4) ≡ v →
    (committed (popped pop l p.regs p.bytes) p).regs ≡ with_register Long n v (eip_past l (with_whole 4 (esp_above 4 p.regs) p.regs))
unfolding popped with_register
landed pop n l v p g read =
    let up : Regs = eip_past l (with_whole 4 (esp_above 4 p.regs) p.regs) in
    let x : ℕ = number_at p.bytes Long (slice_index p.regs.r 4) in
    ap (λ a. (committed (done (to_destination a Long x up)) p).regs) g ∙ ap (λ y. with_register Long n y up) read

ended : (l n v k : ℕ) (r : Regs) (at : ℕ) →
    slice_set (slice_set r.r 4 at) 4 ((slice_index (slice_set r.r 4 at) 4 + 4) % 2 ^ 32) ≡ r.r →
    with_register Long n v (eip_past l (with_whole 4 (esp_above 4 (with_whole 4 at (eip_past k r))) (with_whole 4 at (eip_past k r))))
    ≡ eip_past l (with_register Long n v (eip_past k r))
unfolding with_register
ended l n v k r at same =
    ap (λ h. record { r = slice_set h n v; eip = ((r.eip + k) % 2 ^ 32 + l) % 2 ^ 32; flags = r.flags }) same

pub push_pop : (push pop : Insn) (n push_len pop_len : ℕ) (m : RegsAndBytes) →
    push.op ≡ Push → pop.op ≡ Pop → pop.a ≡ Register n → IsWhole m.regs →
    source_of push.a push.imm Long m.regs m.bytes < 2 ^ 32 →
    (after pop pop_len (after push push_len m)).regs
    ≡ eip_past pop_len (with_register Long n (source_of push.a push.imm Long m.regs m.bytes) (eip_past push_len m.regs))
unfolding pushed pushed_number popped with_register
push_pop push pop n k l m e f g w s =
    let v : ℕ = source_of push.a push.imm Long m.regs m.bytes in
    let r : Regs = m.regs in
    let at : ℕ = esp_below 4 r in
    let five : 4 < length r.r = omega (arith, w.eight) in
    let small : slice_index r.r 4 < 2 ^ 32 = w.small 4 in
    let there : slice_index (slice_set r.r 4 at) 4 ≡ at = index_set r.r 4 at five in
    let b : ℕ → ℕ = written (store at Long v) m.bytes in
    let read : number_at b Long (slice_index (slice_set r.r 4 at) 4) ≡ v = ap (number_at b Long) there ∙ read_back at v m.bytes s in
    let up : (slice_index (slice_set r.r 4 at) 4 + 4) % 2 ^ 32 ≡ slice_index r.r 4 =
    ap (λ x. (x + 4) % 2 ^ 32) there ∙ back_up 4 (slice_index r.r 4) (omega arith) small in
    let same : slice_set (slice_set r.r 4 at) 4 ((slice_index (slice_set r.r 4 at) 4 + 4) % 2 ^ 32) ≡ r.r =
    set_set 4 at _ r.r ∙ ap (slice_set r.r 4) up ∙ set_same 4 r.r in
    let pushed_state : RegsAndBytes = record { regs = with_whole 4 at (eip_past k r); bytes = b } in
    let first : after push k m ≡ pushed_state = after_row push Push k m e in
    let second : after pop l pushed_state ≡ committed (popped pop l pushed_state.regs b) pushed_state =
    after_row pop Pop l pushed_state f in
    ap (λ x. (after pop l x).regs) first ∙ ap (λ x. x.regs) second ∙ landed pop n l v pushed_state g read ∙ ended l n v k r at same

-- what holds of eight numbers one by one holds of a list of eight
as_eight : (P : List ℕ → Type 0) → ((a b c d e x y z : ℕ) → P (a ∷ b ∷ c ∷ d ∷ e ∷ x ∷ y ∷ z ∷ [])) → (g : List ℕ) → length g ≡ 8 → P g
as_eight P f (a ∷ b ∷ c ∷ d ∷ e ∷ x ∷ y ∷ z ∷ []) h = f a b c d e x y z
as_eight P f _ h = absurd (omega (arith, h))

listed : {a b c d e x y z a' b' c' d' e' x' y' z' : ℕ} → a ≡ a' → b ≡ b' → c ≡ c' → d ≡ d' → e ≡ e' → x ≡ x' → y ≡ y' → z ≡ z' →
    (a ∷ b ∷ c ∷ d ∷ e ∷ x ∷ y ∷ z ∷ []) ≡ (a' ∷ b' ∷ c' ∷ d' ∷ e' ∷ x' ∷ y' ∷ z' ∷ [])
listed p q r s t u v w = cc

abbrev file : List ℕ → ℕ → Flags → Regs
file g e f = record { r = g; eip = e; flags = f }

abbrev state : List ℕ → ℕ → Flags → (ℕ → ℕ) → RegsAndBytes
state g e f b = record { regs = file g e f; bytes = b }

-- all registers pushed and popped
abbrev AllBack : ℕ → ℕ → ℕ → Flags → (ℕ → ℕ) → List ℕ → Type 0
AllBack k l e f b g =
    ((j : ℕ) → slice_index g j < 2 ^ 32) →
    (committed (all_popped l (committed (all_pushed k (file g e f)) (state g e f b)).regs
    (committed (all_pushed k (file g e f)) (state g e f b)).bytes) (state g e f b)).regs
    ≡ eip_past l (eip_past k (file g e f))

all_back : (k l e : ℕ) (f : Flags) (b : ℕ → ℕ) (g0 g1 g2 g3 g4 g5 g6 g7 : ℕ)
    → AllBack k l e f b (g0 ∷ g1 ∷ g2 ∷ g3 ∷ g4 ∷ g5 ∷ g6 ∷ g7 ∷ [])
unfolding all_pushed all_popped
all_back k l e f b g0 g1 g2 g3 g4 g5 g6 g7 small =
    let vs : List ℕ = g7 ∷ g6 ∷ g5 ∷ g4 ∷ g3 ∷ g2 ∷ g1 ∷ g0 ∷ [] in
    let at : ℕ = (g4 + (2 ^ 32 - 32)) % 2 ^ 32 in
    ap (λ h. file h (((e + k) % 2 ^ 32 + l) % 2 ^ 32) f) (listed
    (longs_back 8 at vs b 7 (omega arith) (small 0)) (longs_back 8 at vs b 6 (omega arith) (small 1))
    (longs_back 8 at vs b 5 (omega arith) (small 2)) (longs_back 8 at vs b 4 (omega arith) (small 3))
    (back_up 32 g4 (omega arith) (small 4))
    (longs_back 8 at vs b 2 (omega arith) (small 5)) (longs_back 8 at vs b 1 (omega arith) (small 6))
    (longs_back 8 at vs b 0 (omega arith) (small 7)))

as_committed : (l : ℕ) (q m : RegsAndBytes) → (committed (all_popped l q.regs q.bytes) q).regs
    ≡ (committed (all_popped l q.regs q.bytes) m).regs
unfolding all_popped
as_committed l q m = refl

pub push_pop_all : (push pop : Insn) (push_len pop_len : ℕ) (m : RegsAndBytes) →
    push.op ≡ Pusha → pop.op ≡ Popa → IsWhole m.regs →
    (after pop pop_len (after push push_len m)).regs ≡ eip_past pop_len (eip_past push_len m.regs)
push_pop_all push pop k l m e f w =
    let q : RegsAndBytes = committed (all_pushed k m.regs) m in
    ap (λ x. (after pop l x).regs) (after_row push Pusha k m e)
    ∙ ap (λ x. x.regs) (after_row pop Popa l q f)
    ∙ as_committed l q m
    ∙ as_eight (AllBack k l m.regs.eip m.regs.flags m.bytes) (all_back k l m.regs.eip m.regs.flags m.bytes) m.regs.r w.eight w.small

-- string instructions
string_row : (o : Op) (i : Insn) (len : ℕ) (r : Regs) (b : ℕ → ℕ) → IsString o → row o i len r b ≡ string o i len r b
string_row Movs i len r b h = refl
string_row Stos i len r b h = refl
string_row Lods i len r b h = refl
string_row _ i len r b h = absurd h

turn_flags : (o : Op) (s : Size) (r : Regs) (b : ℕ → ℕ) → IsString o → (turn o s r b).0.flags ≡ r.flags
unfolding with_register
turn_flags Movs s r b h = refl
turn_flags Stos s r b h = refl
turn_flags Lods Byte r b h = refl
turn_flags Lods Word r b h = refl
turn_flags Lods Long r b h = refl
turn_flags _ s r b h = absurd h

turn_eip : (o : Op) (s : Size) (r : Regs) (b : ℕ → ℕ) → IsString o → (turn o s r b).0.eip ≡ r.eip
unfolding with_register
turn_eip Movs s r b h = refl
turn_eip Stos s r b h = refl
turn_eip Lods Byte r b h = refl
turn_eip Lods Word r b h = refl
turn_eip Lods Long r b h = refl
turn_eip _ s r b h = absurd h

-- a turn leaves ECX alone, and does not look at it or at EIP
turn_without : (o : Op) (s : Size) (n e e' : ℕ) (f : Flags) (b : ℕ → ℕ) (g0 g1 g2 g3 g4 g5 g6 g7 : ℕ) → IsString o →
    turn o s (file (g0 ∷ n ∷ g2 ∷ g3 ∷ g4 ∷ g5 ∷ g6 ∷ g7 ∷ []) e f) b
    ≡ (let t = turn o s (file (g0 ∷ g1 ∷ g2 ∷ g3 ∷ g4 ∷ g5 ∷ g6 ∷ g7 ∷ []) e' f) b in
    let p : Regs × Stores = (file (slice_set t.0.r 1 n) e f, t.1) in p)
unfolding register_value with_register
turn_without Movs s n e e' f b g0 g1 g2 g3 g4 g5 g6 g7 h = refl
turn_without Stos Byte n e e' f b g0 g1 g2 g3 g4 g5 g6 g7 h = refl
turn_without Stos Word n e e' f b g0 g1 g2 g3 g4 g5 g6 g7 h = refl
turn_without Stos Long n e e' f b g0 g1 g2 g3 g4 g5 g6 g7 h = refl
turn_without Lods Byte n e e' f b g0 g1 g2 g3 g4 g5 g6 g7 h = refl
turn_without Lods Word n e e' f b g0 g1 g2 g3 g4 g5 g6 g7 h = refl
turn_without Lods Long n e e' f b g0 g1 g2 g3 g4 g5 g6 g7 h = refl
turn_without _ s n e e' f b g0 g1 g2 g3 g4 g5 g6 g7 h = absurd h

turn_eight : (o : Op) (s : Size) (e : ℕ) (f : Flags) (b : ℕ → ℕ) (g0 g1 g2 g3 g4 g5 g6 g7 : ℕ) → IsString o →
    length (turn o s (file (g0 ∷ g1 ∷ g2 ∷ g3 ∷ g4 ∷ g5 ∷ g6 ∷ g7 ∷ []) e f) b).0.r ≡ 8
unfolding register_value with_register
turn_eight Movs s e f b g0 g1 g2 g3 g4 g5 g6 g7 h = refl
turn_eight Stos s e f b g0 g1 g2 g3 g4 g5 g6 g7 h = refl
turn_eight Lods Byte e f b g0 g1 g2 g3 g4 g5 g6 g7 h = refl
turn_eight Lods Word e f b g0 g1 g2 g3 g4 g5 g6 g7 h = refl
turn_eight Lods Long e f b g0 g1 g2 g3 g4 g5 g6 g7 h = refl
turn_eight _ s e f b g0 g1 g2 g3 g4 g5 g6 g7 h = absurd h

abbrev turned : Op → Size → List ℕ → ℕ → Flags → (ℕ → ℕ) → Regs × Stores
turned o s g e f b = turn o s (file g e f) b

abbrev turned_bytes : Op → Size → List ℕ → ℕ → Flags → (ℕ → ℕ) → ℕ → ℕ
turned_bytes o s g e f b = all_written (list_of (turned o s g e f b).1) b

-- without REP
single_step : (i : Insn) (o : Op) (len : ℕ) (g : List ℕ) (e : ℕ) (f : Flags) (b : ℕ → ℕ) → i.op ≡ o → IsString o →
    after (record i { rep = false }) len (state g e f b) ≡ state (turned o i.size g e f b).0.r ((e + len) % 2 ^ 32) f
    (turned_bytes o i.size g e f b)
unfolding string
single_step i o len g e f b is h =
    let r : Regs = file g e f in
    let m : RegsAndBytes = state g e f b in
    let j : Insn = record i { rep = false } in
    let t : Regs × Stores = turned o i.size g e f b in
    after_row j o len m is ∙ ap (λ x. committed x m) (string_row o j len r b h)
    ∙ ap (λ x. state t.0.r ((x + len) % 2 ^ 32) t.0.flags (turned_bytes o i.size g e f b)) (turn_eip o i.size r b h)
    ∙ ap (λ x. state t.0.r ((e + len) % 2 ^ 32) x (turned_bytes o i.size g e f b)) (turn_flags o i.size r b h)

isnt_zero : (n : ℕ) → eqb (suc n) 0 ≡ false
isnt_zero n = grind (arith, nat_tests)

isnt_one : (n : ℕ) → eqb (suc (suc n)) 1 ≡ false
isnt_one n = grind (arith, nat_tests)

one_less : (n : ℕ) → suc n - 1 ≡ n
one_less n = omega arith

-- with REP, while ECX is n + 1
abbrev repeated : Insn → Op → ℕ → ℕ → ℕ → ℕ → Flags → (ℕ → ℕ) → List ℕ → Type 0
repeated i o n len e e' f b g =
    after (record i { rep = true }) len (state (slice_set g 1 (suc n)) e f b)
    ≡ record {
      regs = counted true (suc n) len (file (slice_set (turned o i.size g e' f b).0.r 1 (suc n)) e f);
      bytes = turned_bytes o i.size g e' f b;
    }

repeated_step : (i : Insn) (o : Op) (n len e e' : ℕ) (f : Flags) (b : ℕ → ℕ) → i.op ≡ o → IsString o → (g0 g1 g2 g3 g4 g5 g6 g7 : ℕ) →
    repeated i o n len e e' f b (g0 ∷ g1 ∷ g2 ∷ g3 ∷ g4 ∷ g5 ∷ g6 ∷ g7 ∷ [])
unfolding string
repeated_step i o n len e e' f b is h g0 g1 g2 g3 g4 g5 g6 g7 =
    let r : Regs = file (g0 ∷ suc n ∷ g2 ∷ g3 ∷ g4 ∷ g5 ∷ g6 ∷ g7 ∷ []) e f in
    let m : RegsAndBytes = record { regs = r; bytes = b } in
    let j : Insn = record i { rep = true } in
    let t : Regs × Stores = turn o i.size r b in
    after_row j o len m is ∙ ap (λ x. committed x m) (string_row o j len r b h)
    ∙ ap (λ c. committed (cond c (Done (eip_past len r) Nothing) (Done (counted true (suc n) len t.0) t.1)) m) (isnt_zero n)
    ∙ ap (λ (x : Regs × Stores). committed (Done (counted true (suc n) len x.0) x.1) m)
    (turn_without o i.size (suc n) e e' f b g0 g1 g2 g3 g4 g5 g6 g7 h)

repeated_of : (i : Insn) (o : Op) (n len e e' : ℕ) (f : Flags) (b : ℕ → ℕ) (g : List ℕ) → i.op ≡ o → IsString o → length g ≡ 8
    → repeated i o n len e e' f b g
repeated_of i o n len e e' f b g is h eight = as_eight (repeated i o n len e e' f b) (repeated_step i o n len e e' f b is h) g eight

turned_length : (o : Op) (s : Size) (e : ℕ) (f : Flags) (b : ℕ → ℕ) (g : List ℕ) → IsString o → length g ≡ 8
    → length (turned o s g e f b).0.r ≡ 8
turned_length o s e f b g h eight =
    as_eight (λ x. length (turned o s x e f b).0.r ≡ 8) (λ g0 g1 g2 g3 g4 g5 g6 g7. turn_eight o s e f b g0 g1 g2 g3 g4 g5 g6 g7 h) g eight

record EndsCountedOut (len e : ℕ) (single many : RegsAndBytes) : Type 0 where
  out : IsCountedOut single many
  passes : many.regs.eip ≡ (e + len) % 2 ^ 32

many_turns : (n : ℕ) (i : Insn) (o : Op) (len single : ℕ) (g : List ℕ) (e e' : ℕ) (f : Flags) (b : ℕ → ℕ) → i.op ≡ o
    → IsString o → length g ≡ 8 →
    EndsCountedOut len e (turns (suc n) (record i { rep = false }) single (state g e' f b))
    (turns (suc n) (record i { rep = true }) len (state (slice_set g 1 (suc n)) e f b))
many_turns zero i o len single g e e' f b is h eight =
    let T : List ℕ = (turned o i.size g e' f b).0.r in
    let c : ℕ → ℕ = turned_bytes o i.size g e' f b in
    let one : RegsAndBytes = state T ((e' + single) % 2 ^ 32) f c in
    let last : RegsAndBytes = state (slice_set T 1 0) ((e + len) % 2 ^ 32) f c in
    let left : after (record i { rep = false }) single (state g e' f b) ≡ one = single_step i o single g e' f b is h in
    let right : after (record i { rep = true }) len (state (slice_set g 1 1) e f b) ≡ last =
    repeated_of i o 0 len e e' f b g is h eight ∙ ap (λ x. state x ((e + len) % 2 ^ 32) f c) (set_set 1 1 0 T) in
    let P : RegsAndBytes → Type 0 = λ x. EndsCountedOut len e x (after (record i { rep = true }) len (state (slice_set g 1 1) e f b)) in
    let Q : RegsAndBytes → Type 0 = λ x. EndsCountedOut len e one x in
    subst P (sym left) (subst Q (sym right) (record { out = record { bytes = refl; flags = refl; registers = refl }; passes = refl }))
many_turns (suc n) i o len single g e e' f b is h eight =
    let T : List ℕ = (turned o i.size g e' f b).0.r in
    let c : ℕ → ℕ = turned_bytes o i.size g e' f b in
    let one : RegsAndBytes = state T ((e' + single) % 2 ^ 32) f c in
    let next : RegsAndBytes = state (slice_set T 1 (suc n)) e f c in
    let left : after (record i { rep = false }) single (state g e' f b) ≡ one = single_step i o single g e' f b is h in
    let x : Regs = file (slice_set T 1 (suc (suc n))) e f in
    let right : after (record i { rep = true }) len (state (slice_set g 1 (suc (suc n))) e f b) ≡ next =
    repeated_of i o (suc n) len e e' f b g is h eight
    ∙ ap (λ t. record {
      regs = cond t (eip_past len (with_whole 1 (suc (suc n) - 1) x)) (with_whole 1 (suc (suc n) - 1) x);
      bytes = c;
    }) (isnt_one n)
    ∙ ap (λ k. state (slice_set (slice_set T 1 (suc (suc n))) 1 k) e f c) (one_less (suc n))
    ∙ ap (λ y. state y e f c) (set_set 1 (suc (suc n)) (suc n) T) in
    let P : RegsAndBytes → Type 0 = λ x. EndsCountedOut len e (turns (suc n) (record i { rep = false }) single x)
    (turns (suc n) (record i { rep = true }) len (after (record i { rep = true }) len (state (slice_set g 1 (suc (suc n))) e f b))) in
    let Q : RegsAndBytes → Type 0 =
    λ x. EndsCountedOut len e (turns (suc n) (record i { rep = false }) single one) (turns (suc n) (record i { rep = true }) len x) in
    subst P (sym left) (subst Q (sym right)
    (many_turns n i o len single T e ((e' + single) % 2 ^ 32) f c is h (turned_length o i.size e' f b g h eight)))

all_turns : (i : Insn) (n len single : ℕ) (m : RegsAndBytes) → IsString i.op → i.rep ≡ true → IsWhole m.regs
    → slice_index m.regs.r 1 ≡ suc n →
    EndsCountedOut len m.regs.eip (turns (suc n) (record i { rep = false }) single m) (turns (suc n) i len m)
all_turns i n len single m h rep w ecx =
    let g : List ℕ = m.regs.r in
    let same : slice_set g 1 (suc n) ≡ g = ap (slice_set g 1) (sym ecx) ∙ set_same 1 g in
    let P : List ℕ → Type 0 = λ x.
    EndsCountedOut len m.regs.eip (turns (suc n) (record i { rep = false }) single m)
    (turns (suc n) (record i { rep = true }) len (state x m.regs.eip m.regs.flags m.bytes)) in
    let Q : Bool → Type 0 = λ x. EndsCountedOut len m.regs.eip (turns (suc n) (record i { rep = false }) single m)
    (turns (suc n) (record i { rep = x }) len m) in
    subst Q (sym rep) (subst P same (many_turns n i i.op len single g m.regs.eip m.regs.eip m.regs.flags m.bytes refl h w.eight))

pub counted_out : (i : Insn) (n len single : ℕ) (m : RegsAndBytes) → IsString i.op → i.rep ≡ true → IsWhole m.regs
    → slice_index m.regs.r 1 ≡ suc n →
    IsCountedOut (turns (suc n) (record i { rep = false }) single m) (turns (suc n) i len m)
counted_out i n len single m h rep w ecx = (all_turns i n len single m h rep w ecx).out

pub passed_by : (i : Insn) (n len : ℕ) (m : RegsAndBytes) → IsString i.op → i.rep ≡ true → IsWhole m.regs → slice_index m.regs.r 1 ≡ suc n →
    (turns (suc n) i len m).regs.eip ≡ (m.regs.eip + len) % 2 ^ 32
passed_by i n len m h rep w ecx = (all_turns i n len 0 m h rep w ecx).passes
