-- What is written of a state is read so, and what is read is written so.
use Rattle.std.proofs.Common.{◌≡◌, ℕ, ◌+◌, ◌-◌, ◌*◌, ◌/◌, ◌≤◌, ◌^◌, ◌⊎◌, true, false, List, [], ◌++◌, length, take, drop, Option, Some, None, Result, Ok, refl, ap, sym, ◌∙◌, subst, arith, inl, inr, length-append}
use Rattle.std.specs.Prelude.{◌&&◌, nat_le, nat_lt, min, replicate, IfNone}
use Rattle.std.specs.Option.{option_or}
use Rattle.std.proofs.lemmas.Bool.{le-ltb, ltb-false, leb-true, and_parts, cases_Bool}
use Rattle.std.proofs.lemmas.List.{take_at, drop_at, take_all, take-append-drop, length-drop, append-nil, take_min, drop-replicate, drop_all}
use Rattle.std.proofs.lemmas.Option.{same_Some}
use Rattle.plain_laws.proofs.Options.{neither, else_none}
use Rattle.guest_ram.specs.Bytes.{part, with_part, AreBytes}
use Rattle.guest_ram.proofs.Bytes.{length-part, bytes-part}
use Rattle.descriptors.specs.declared.cpu.Cpu.{Cpu}
use Rattle.board.specs.declared.devices.Board.{Board}
use Rattle.board.specs.Saved.{saved}
use Rattle.board.specs.Restored.{board_at}
use Rattle.board.specs.Form.{board_form, restored}
use Rattle.checkpoint.specs.declared.state.State.{State}
use Rattle.checkpoint.specs.declared.head.Head.{Head}
use Rattle.checkpoint.specs.Ranges.{IsSized}
use Rattle.checkpoint.specs.Head.{spelled, head_at}
use Rattle.checkpoint.specs.Demands.{first_bad}
use Rattle.checkpoint.specs.Form.{demands}
use Rattle.checkpoint.specs.States.{head_of, cpu_of, checkpoint_bytes, front, size, misses, fault_of, state_by, unless, checkpoint_in}
use Rattle.checkpoint.specs.InForm.{IsInForm}
use Rattle.checkpoint.proofs.Heads.{length-spelled, head_back, spelled_again}
use Rattle.checkpoint.proofs.Boards.{board_again}
use Rattle.checkpoint.proofs.AllMet.{Groups, groups_from_none, none_from_groups}
use Rattle.checkpoint.proofs.Processors.{cpu_back, meets, fits_so, head_again}

no_miss : (there : ℕ) (n : ℕ) → there ≡ n → misses there n ≡ None
no_miss there n e =
    let low : nat_lt there n ≡ false = le-ltb there n (omega arith) in
    let high : nat_lt n there ≡ false = le-ltb n there (omega arith) in
    rw (low, high) refl

front_is : (head ram : List ℕ) → length head ≡ 256 → front (head ++ ram) ≡ head
front_is head ram long =
    let none : 256 - length (head ++ ram) ≡ 0 = omega (arith, length-append head ram) in
    ap (λ (n : ℕ). take 256 (head ++ ram) ++ replicate n 0) none ∙ append-nil (take 256 (head ++ ram)) ∙ take_at head ram 256 long

unless_none : (fault : Option ℕ) (state : State) → fault ≡ None → unless fault state ≡ Ok state
unless_none fault state e = rw e refl

abbrev read_as : State → Result State ℕ
read_as s = Ok s

abbrev some_place : ℕ → Option ℕ
some_place n = Some n

decided : (h : Head) (bytes : List ℕ) (s : State) → head_at (front bytes) ≡ h → first_bad (length bytes) (demands h) ≡ None
    → length bytes ≡ size h.frames →
    state_by h (drop 256 bytes) ≡ s → checkpoint_in bytes ≡ Ok s
unfolding checkpoint_in fault_of
decided h bytes s read none whole is =
    let of_head : Head → Result State ℕ = λ x.
    unless (option_or (first_bad (length bytes) (demands x)) (misses (length bytes) (size x.frames))) (state_by x (drop 256 bytes)) in
    let well : option_or (first_bad (length bytes) (demands h)) (misses (length bytes) (size h.frames)) ≡ None =
    neither (first_bad (length bytes) (demands h)) (misses (length bytes) (size h.frames)) none
    (no_miss (length bytes) (size h.frames) whole) in
    ap of_head read
    ∙ unless_none (option_or (first_bad (length bytes) (demands h)) (misses (length bytes) (size h.frames)))
    (state_by h (drop 256 bytes)) well
    ∙ ap read_as is

record Says (h : Head) (board : List ℕ) (step frames : ℕ) : Type 0 where
  board_is : h.board ≡ board
  step_is : h.step ≡ step
  frames_is : h.frames ≡ frames

says : (cpu : Cpu) (board : List ℕ) (step frames : ℕ) → Says (head_of cpu board step frames) board step frames
unfolding head_of
says cpu board step frames = record { board_is = refl; step_is = refl; frames_is = refl }

same_state : (s : State) (cpu : Cpu) (board : Board) (step : ℕ) (ram : List ℕ) → cpu ≡ s.cpu → board ≡ s.board
    → step ≡ s.step → ram ≡ s.ram →
    (let made : State = record { cpu = cpu; board = board; step = step; ram = ram } in made) ≡ s
same_state s cpu board step ram p q r t = λ i. record { cpu = p i; board = q i; step = r i; ram = t i }

pub read_back : (s : State) → IsInForm s → length s.cpu.seg ≡ 4 → board_form (saved s.board) ≡ true → board_at (saved s.board) ≡ s.board →
    IsSized (head_of s.cpu (saved s.board) s.step (length s.ram / 4096)) → checkpoint_in (checkpoint_bytes s) ≡ Ok s
unfolding checkpoint_bytes
read_back s form long board_fits board_back sized =
    let frames = length s.ram / 4096 in
    let h = head_of s.cpu (saved s.board) s.step frames in
    let bytes = spelled h ++ s.ram in
    let told = says s.cpu (saved s.board) s.step frames in
    let head_long = length-spelled h sized in
    let read : head_at (front bytes) ≡ h = ap head_at (front_is (spelled h) s.ram head_long) ∙ head_back h sized in
    let groups = meets s.cpu (saved s.board) s.step frames form.fit long form.step (omega (arith, form.ram.0))
    (omega (arith, form.ram.1)) board_fits in
    let whole : length bytes ≡ size h.frames = omega (arith, length-append (spelled h) s.ram, form.ram.2, told.frames_is) in
    let state = same_state s (cpu_of h) (board_at h.board) h.step (drop 256 bytes) (cpu_back s.cpu (saved s.board) s.step frames long)
    (ap board_at told.board_is ∙ board_back) told.step_is (drop_at (spelled h) s.ram 256 head_long) in
    decided h bytes s read (none_from_groups (length bytes) h groups) whole state

pub put_whole : (s : State) (h : Head) (board : List ℕ) (len : ℕ) (empty first all copy : List ℕ) → empty ≡ []
    → first ≡ empty ++ spelled h →
    h ≡ head_of s.cpu board s.step (len / 4096) → board ≡ saved s.board → len ≡ length s.ram → copy ≡ part s.ram 0 len
    → all ≡ first ++ copy →
    all ≡ checkpoint_bytes s
unfolding checkpoint_bytes part
put_whole s h board len empty first all copy empty_is first_is h_is board_is len_is copy_is all_is =
    let head : h ≡ head_of s.cpu (saved s.board) s.step (length s.ram / 4096) =
    h_is ∙ ap (λ (b : List ℕ). head_of s.cpu b s.step (len / 4096)) board_is
    ∙ ap (λ (n : ℕ). head_of s.cpu (saved s.board) s.step (n / 4096)) len_is in
    let ram : copy ≡ s.ram = copy_is ∙ ap (λ (n : ℕ). take n s.ram) len_is ∙ take_all (length s.ram) s.ram (omega arith) in
    let front : first ≡ spelled (head_of s.cpu (saved s.board) s.step (length s.ram / 4096)) =
    first_is ∙ ap (λ (xs : List ℕ). xs ++ spelled h) empty_is ∙ ap spelled head in
    all_is ∙ ap (λ (xs : List ℕ). xs ++ copy) front
    ∙ ap (λ (xs : List ℕ). spelled (head_of s.cpu (saved s.board) s.step (length s.ram / 4096)) ++ xs) ram

pub sized_so : (s : State) (h : Head) (board : List ℕ) (len : ℕ) → h ≡ head_of s.cpu board s.step (len / 4096) → board ≡ saved s.board
    → len ≡ length s.ram →
    IsSized h → IsSized (head_of s.cpu (saved s.board) s.step (length s.ram / 4096))
sized_so s h board len h_is board_is len_is sized =
    subst IsSized
    (h_is ∙ ap (λ (b : List ℕ). head_of s.cpu b s.step (len / 4096)) board_is
    ∙ ap (λ (n : ℕ). head_of s.cpu (saved s.board) s.step (n / 4096)) len_is)
    sized

-- ---- what is read

pub whole_size : (there n : ℕ) → misses there n ≡ None → there ≡ n
whole_size there n none = by_cases (cases_Bool (nat_lt there n)) (cases_Bool (nat_lt n there)) where
  by_cases : (nat_lt there n ≡ true) ⊎ (nat_lt there n ≡ false) → (nat_lt n there ≡ true) ⊎ (nat_lt n there ≡ false) → there ≡ n
  by_cases (inl low) other =
      let e : some_place there ≡ None = rw low at none in absurd (cc)
  by_cases (inr isnt_low) (inl high) =
      let e : some_place n ≡ None = rw (isnt_low, high) at none in absurd (cc)
  by_cases (inr isnt_low) (inr isnt_high) = omega (arith, ltb-false there n isnt_low, ltb-false n there isnt_high)

pub record Lengths (m : List ℕ) : Type 0 where
  pub magic : length (head_at m).magic ≡ 4
  pub segments : length (head_at m).segments ≡ 4
  pub unnamed : length (head_at m).unnamed ≡ 14
  pub board : length (head_at m).board ≡ 64
  pub bytes : AreBytes (head_at m).board
  pub rest : length (head_at m).rest ≡ 64

lengths : (m : List ℕ) → AreBytes m → length m ≡ 256 → Lengths m
unfolding head_at
lengths m are long = record {
  magic = length-part m 0 4 (omega arith);
  segments = refl;
  unnamed = length-part m 114 14 (omega arith);
  board = length-part m 128 64 (omega arith);
  bytes = bytes-part m 128 64 are;
  rest = length-part m 192 64 (omega arith);
}

pub record Read (bytes : List ℕ) : Type 0 where
  pub groups : Groups (head_at (front bytes))
  pub size_is : length bytes ≡ size (head_at (front bytes)).frames
  pub front_is : front bytes ≡ take 256 bytes
  pub bytes_are : AreBytes (front bytes)
  pub long : length (front bytes) ≡ 256
  pub lengths_are : Lengths (front bytes)
  pub step : (head_at (front bytes)).step ≤ 2 ^ 40
  pub frames : (2048 ≤ (head_at (front bytes)).frames) × ((head_at (front bytes)).frames ≤ 16384)

pub read_well : (bytes : List ℕ) → AreBytes bytes → fault_of (head_at (front bytes)) (length bytes) ≡ None → Read bytes
unfolding fault_of part
read_well bytes are none =
    let h = head_at (front bytes) in
    let both = else_none (first_bad (length bytes) (demands h)) (misses (length bytes) (size h.frames)) none in
    let whole = whole_size (length bytes) (size h.frames) both.1 in
    let zero : 256 - length bytes ≡ 0 = omega arith in
    let first : front bytes ≡ take 256 bytes = ap (λ (n : ℕ). take 256 bytes ++ replicate n 0) zero ∙ append-nil (take 256 bytes) in
    let bytes_are : AreBytes (front bytes) = subst AreBytes (sym first) (bytes-part bytes 0 256 are) in
    let long : length (front bytes) ≡ 256 = ap length first ∙ length-part bytes 0 256 (omega arith) in
    let sizes = lengths (front bytes) bytes_are long in
    let groups = groups_from_none (length bytes) h (omega arith) sizes.unnamed sizes.rest both.0 in
    let counts = and_parts (nat_le 2048 h.frames && nat_le h.frames 16384) _ groups.counts in
    let frames = and_parts (nat_le 2048 h.frames) (nat_le h.frames 16384) counts.0 in
    let step = and_parts (nat_le h.step (2 ^ 40)) true counts.1 in
    record {
      groups = groups;
      size_is = whole;
      front_is = first;
      bytes_are = bytes_are;
      long = long;
      lengths_are = sizes;
      step = leb-true h.step (2 ^ 40) step.0;
      frames = (leb-true 2048 h.frames frames.0, leb-true h.frames 16384 frames.1);
    }

pub board_restored : (bytes : List ℕ) → AreBytes bytes → fault_of (head_at (front bytes)) (length bytes) ≡ None →
    restored (head_at (front bytes)).board ≡ Some (board_at (head_at (front bytes)).board)
board_restored bytes are none =
    let form = (read_well bytes are none).groups.board in rw form refl

pub written_again : (bytes : List ℕ) → AreBytes bytes → fault_of (head_at (front bytes)) (length bytes) ≡ None →
    (bytes ≡ checkpoint_bytes (state_by (head_at (front bytes)) (drop 256 bytes)))
    × IsInForm (state_by (head_at (front bytes)) (drop 256 bytes))
unfolding checkpoint_bytes
written_again bytes are none =
    let h = head_at (front bytes) in
    let r = read_well bytes are none in
    let behind : length (drop 256 bytes) ≡ 4096 * h.frames = omega (arith, length-drop 256 bytes, r.size_is) in
    let frames : length (drop 256 bytes) / 4096 ≡ h.frames = omega arith in
    let board = board_again h.board r.lengths_are.bytes r.lengths_are.board r.groups.board in
    let head : head_of (cpu_of h) (saved (board_at h.board)) h.step (length (drop 256 bytes) / 4096) ≡ h =
    ap (λ (b : List ℕ). head_of (cpu_of h) b h.step (length (drop 256 bytes) / 4096)) board
    ∙ ap (λ (n : ℕ). head_of (cpu_of h) h.board h.step n) frames
    ∙ head_again h r.lengths_are.magic r.lengths_are.segments r.groups in
    let spelled_so : spelled (head_of (cpu_of h) (saved (board_at h.board)) h.step (length (drop 256 bytes) / 4096)) ≡ take 256 bytes =
    ap spelled head ∙ spelled_again (front bytes) r.bytes_are r.long ∙ r.front_is in
    let whole : take 256 bytes ++ drop 256 bytes ≡ bytes = take-append-drop 256 bytes in (
      sym (ap (λ (xs : List ℕ). xs ++ drop 256 bytes) spelled_so ∙ whole),
      record { step = r.step; ram = (omega (arith, r.frames.0), omega (arith, r.frames.1), omega (arith)); fit = fits_so h r.groups },
    )

-- ---- what the functions that read compute

-- the count is a variable, or all of the zeros would be written out
zeros_left : (there n left : ℕ) (zeros : List ℕ) → zeros ≡ drop there (replicate n 0) → n - there ≡ left → zeros ≡ replicate left 0
zeros_left there n left zeros is lacking = is ∙ drop-replicate there n 0 ∙ ap (λ (k : ℕ). replicate k 0) lacking

pub front_put : (bytes copy zeros : List ℕ) (there : ℕ) → there ≡ min (length bytes) 256 → copy ≡ take there bytes
    → zeros ≡ drop there (replicate 256 0) →
    copy ++ zeros ≡ front bytes
front_put bytes copy zeros there there_is copy_is zeros_is =
    let small : there ≡ min 256 (length bytes) = omega arith in
    let lacking : 256 - there ≡ 256 - length bytes = omega arith in
    let first : copy ≡ take 256 bytes = copy_is ∙ ap (λ (n : ℕ). take n bytes) small ∙ take_min 256 bytes in
    let behind : zeros ≡ replicate (256 - length bytes) 0 = zeros_left there 256 (256 - length bytes) zeros zeros_is lacking in
    ap (λ (xs : List ℕ). xs ++ zeros) first ∙ ap (λ (xs : List ℕ). take 256 bytes ++ xs) behind

pub put_all : (ram m : List ℕ) → length ram ≡ length m → with_part ram 0 m ≡ m
unfolding with_part
put_all ram m same =
    let none : drop (0 + length m) ram ≡ [] = drop_all (0 + length m) ram (omega arith) in
    ap (λ (xs : List ℕ). m ++ xs) none ∙ append-nil m

pub if_none : {P : Type 0} (r : Option ℕ) → P → IfNone r P
if_none None p = p
if_none (Some at) p = tt

told : (bytes fr : List ℕ) (h : Head) (fault : Option ℕ) → fr ≡ front bytes → h ≡ head_at fr
    → fault ≡ fault_of h (length bytes) → fault ≡ None →
    (h ≡ head_at (front bytes)) × (fault_of (head_at (front bytes)) (length bytes) ≡ None)
told bytes fr h fault fr_is h_is fault_is none =
    let head : h ≡ head_at (front bytes) = h_is ∙ ap head_at fr_is in
    (head, ap (λ (x : Head). fault_of x (length bytes)) (sym head) ∙ sym fault_is ∙ none)

pub never_lost : (bytes fr : List ℕ) (h : Head) (fault : Option ℕ) (board : Option Board) → AreBytes bytes
    → fr ≡ front bytes → h ≡ head_at fr →
    fault ≡ fault_of h (length bytes) → fault ≡ None → board ≡ restored h.board → board ≡ None → ⊥
never_lost bytes fr h fault board are fr_is h_is fault_is none board_is lost =
    let t = told bytes fr h fault fr_is h_is fault_is none in
    let there : board ≡ Some (board_at (head_at (front bytes)).board) =
    board_is ∙ ap (λ (x : Head). restored x.board) t.0 ∙ board_restored bytes are t.1 in
    absurd (cc)

pub read_so : (bytes fr : List ℕ) (h : Head) (fault : Option ℕ) (restored_is : Option Board) (cpu : Cpu) (board : Board)
    (ram : List ℕ) → AreBytes bytes →
    fr ≡ front bytes → h ≡ head_at fr → fault ≡ fault_of h (length bytes) → fault ≡ None → restored_is ≡ restored h.board
    → restored_is ≡ Some board →
    cpu ≡ cpu_of h → ram ≡ drop 256 bytes →
    (bytes ≡ checkpoint_bytes (record { cpu = cpu; board = board; step = h.step; ram = ram }))
    × IsInForm (record { cpu = cpu; board = board; step = h.step; ram = ram })
read_so bytes fr h fault restored_is cpu board ram are fr_is h_is fault_is none back_is some cpu_is ram_is =
    let t = told bytes fr h fault fr_is h_is fault_is none in
    let b : board ≡ board_at h.board =
    same_Some board (board_at h.board) (sym some ∙ back_is ∙ ap (λ (x : Head). restored x.board) t.0 ∙ board_restored bytes are t.1
    ∙ ap (λ (x : Head). Some (board_at x.board)) (sym t.0)) in
    let made : State = record { cpu = cpu; board = board; step = h.step; ram = ram } in
    let same : state_by (head_at (front bytes)) (drop 256 bytes) ≡ made =
    ap (λ (x : Head). state_by x (drop 256 bytes)) (sym t.0)
    ∙ same_state made (cpu_of h) (board_at h.board) h.step (drop 256 bytes) (sym cpu_is) (sym b) refl (sym ram_is) in
    let P : State → Type 0 = λ s. (bytes ≡ checkpoint_bytes s) × IsInForm s in
    subst P same (written_again bytes are t.1)
