-- Kernels that are read one after the other.
use Rattle.std.proofs.Common.{◌≡◌, ◌-◌, ◌*◌, ◌<◌, ◌≤◌, ℕ, true, List, [], ◌∷◌, ◌++◌, length, map, take, drop, get_or, zero, suc, Option, Result, Ok, Err, Vec, IfOk, IfErr, refl, sym, ap, subst, ◌∙◌, arith}
use Rattle.std.specs.List.{All}
use Rattle.std.specs.declared.alloc.Global.{Global}
use Rattle.std.proofs.lemmas.List.{append_assoc, append-nil, take_all, length-map}
use Rattle.pv_io.specs.Files.{FileMap}
use Rattle.board.specs.ScriptForm.{is_script}
use Rattle.guest_sched.specs.declared.kernel.Kernel.{Kernel}
use Rattle.pv_build.specs.declared.halt.Halt.{Halt}
use Rattle.pv_words.specs.Words.{KernelNames, names_in_pairs}
use Rattle.pv_share.specs.Kernels.{HasKernel, HasKernels}
use Rattle.pv_share.specs.Unshared.{AreKernels}

-- ---- words in pairs

abbrev pub named : List ℕ → List ℕ → KernelNames
named image script = record { image = image; script = script }

same_names : (a b c d : List ℕ) → a ≡ c → b ≡ d → named a b ≡ named c d
same_names a b c d is be = ap (λ (l : List ℕ). named l b) is ∙ ap (λ (l : List ℕ). named c l) be

-- the first two words, with these bytes
pub pairs_are : {A : Type 0} (f : A → List ℕ) (xs : List A) (x y : A) (a b : List ℕ) → 2 ≤ length xs → x ≡ get_or xs 0 x
    → y ≡ get_or xs 1 y → a ≡ f x → b ≡ f y
    → names_in_pairs (map f xs) ≡ named a b ∷ names_in_pairs (map f (take (length xs - 2) (drop 2 xs)))
pairs_are f [] x y a b le one two is be = absurd (omega (arith, le))
pairs_are f (z ∷ []) x y a b le one two is be = absurd (omega (arith, le))
pairs_are {A} f (z ∷ w ∷ xs) x y a b le one two is be =
    let all : take (length (z ∷ w ∷ xs) - 2) xs ≡ xs = take_all (length (z ∷ w ∷ xs) - 2) xs (omega arith) in
    ap (λ (n : KernelNames). n ∷ names_in_pairs (map f xs)) (same_names (f z) (f w) a b (sym (is ∙ ap f one)) (sym (be ∙ ap f two)))
    ∙ ap (λ (l : List A). named a b ∷ names_in_pairs (map f l)) (sym all)

pub pairs_none : {A : Type 0} (f : A → List ℕ) (xs : List A) → length xs < 2 → names_in_pairs (map f xs) ≡ []
pairs_none f [] lt = refl
pairs_none f (z ∷ []) lt = refl
pairs_none f (z ∷ w ∷ xs) lt = absurd (omega (arith, lt))

-- ---- what is after

abbrev HasForm : Kernel → Type 0
HasForm kernel = is_script kernel.script.list ≡ true

form_cons : (kernel : Kernel) (kernels : List Kernel) → HasForm kernel → All HasForm kernels → All HasForm (kernel ∷ kernels)
form_cons kernel kernels one all zero d lt = one
form_cons kernel kernels one all (suc k) d lt = all k d (omega (arith, lt))

form_none : All HasForm []
form_none k d lt = absurd (omega (arith, lt))

pub none_behind : (files : Option FileMap) (names : List KernelNames) (before : List Kernel) → names ≡ [] → (x : List Kernel)
    × (before ≡ before ++ x) × AreKernels files names x
none_behind files names before none = (
  [],
  sym (append-nil before),
  subst (λ (l : List KernelNames). AreKernels files l []) (sym none) (record { has = tt; scripts = form_none }),
)

-- one kernel and those after it
pub all_behind : (r : Result (Vec Kernel Global) Halt) (files now : Option FileMap) (before items : List Kernel) (kernel : Kernel)
    (names : KernelNames) (more all : List KernelNames)
    → all ≡ names ∷ more → now ≡ files → items ≡ before ++ kernel ∷ [] → HasKernel files names kernel → is_script kernel.script.list ≡ true
    → IfOk r (λ ks. (x : List Kernel) × (ks.items ≡ items ++ x) × AreKernels now more x)
    → IfOk r (λ ks. (x : List Kernel) × (ks.items ≡ before ++ x) × AreKernels files all x)
all_behind (Ok ks) files now before items kernel names more all is same put has form h =
    let later = subst (λ (f : Option FileMap). AreKernels f more h.0) same h.2 in
    let here : AreKernels files (names ∷ more) (kernel ∷ h.0) =
    record { has = (has, later.has); scripts = form_cons kernel h.0 form later.scripts } in (
      kernel ∷ h.0,
      h.1 ∙ (ap (λ (l : List Kernel). l ++ h.0) put ∙ append_assoc before (kernel ∷ []) h.0),
      subst (λ (l : List KernelNames). AreKernels files l (kernel ∷ h.0)) (sym is) here,
    )
all_behind (Err e) files now before items kernel names more all is same put has form h = h

pub err_to : (r : Result (Vec Kernel Global) Halt) (P Q : Halt → Type 0) → ((e : Halt) → P e → Q e) → IfErr r P → IfErr r Q
err_to (Ok ks) P Q to h = h
err_to (Err e) P Q to h = to e h

-- ---- how many they are

pub count_same : (files : Option FileMap) (names : List KernelNames) (kernels : List Kernel) → HasKernels files names kernels
    → length kernels ≡ length names
count_same files [] [] h = refl
count_same files [] (kernel ∷ kernels) h = absurd h
count_same files (n ∷ names) [] h = absurd h
count_same files (n ∷ names) (kernel ∷ kernels) h = ap suc (count_same files names kernels h.1)

pub pairs_few : (words : List (List ℕ)) → 2 * length (names_in_pairs words) ≤ length words
pairs_few [] = omega arith
pairs_few (a ∷ []) = omega arith
pairs_few (a ∷ b ∷ words) = let h = pairs_few words in omega (arith, h)

-- kernels of so few words
pub kernels_few : {A : Type 0} (f : A → List ℕ) (xs : List A) (files : Option FileMap) (kernels before all : List Kernel) → length xs ≤ 8
    → HasKernels files (names_in_pairs (map f xs)) kernels
    → before ≡ [] → all ≡ before ++ kernels → length all ≤ 4
kernels_few f xs files kernels before all le has none is =
    let same : all ≡ kernels = is ∙ ap (λ (l : List Kernel). l ++ kernels) none in
    let count = count_same files (names_in_pairs (map f xs)) kernels has in
    let pairs = pairs_few (map f xs) in
    let size = length-map xs f in
    let long = ap length same in
    omega (arith, le, count, pairs, size, long)
