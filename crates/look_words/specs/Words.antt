-- The forms of `look`.
use Rattle.std.specs.Prelude.{ℕ, ◌^◌, ◌&&◌, List, [], ◌∷◌, codes, bytes_eq, Option, Some, None, option_map, option_and_then, if◌then◌else◌}
use Rattle.text_lines.specs.Numbers.{number_said}
use Rattle.pv_words.specs.Words.{is_name}
use Rattle.look_words.specs.Numbers.{address_said, len_said, steps_said, addresses_said}

-- a run that is looked into: the names of its image and its script, and the number of its frames
pub record RunAsked : Type 0 where
  pub image : List ℕ
  pub script : List ℕ
  pub frames : ℕ

-- what is printed of a machine
pub data Aspect : Type 0 where
  -- all but the memory
  Whole : Aspect
  -- the walk for a linear address
  Walk : (address : ℕ) → Aspect
  -- the bytes at a linear address
  Memory : (address len : ℕ) → Aspect

-- which steps are printed
pub data Only : Type 0 where
  Each : Only
  -- those that begin at one of these linear addresses
  At : List ℕ → Only
  -- those that write to this range
  On : (address len : ℕ) → Only

pub data Look : Type 0 where
  -- the name of an image
  ListImage : List ℕ → Look
  -- the items of a run to a step, and its steps from a step on
  Steps : RunAsked → (from to : ℕ) → Only → Look
  -- the machine before each of these steps
  Before : RunAsked → List ℕ → Aspect → Look
  -- the machine of a checkpoint, by its name
  InFile : List ℕ → Aspect → Look

-- ---- parts of forms

abbrev pub run_said : List ℕ → List ℕ → List ℕ → Option RunAsked
run_said image script frames =
    if is_name image && is_name script
    then option_map (λ count. record { image = image; script = script; frames = count }) (number_said 2048 16384 frames)
    else None

abbrev pub step_said : List ℕ → Option ℕ
step_said word = number_said 0 (2 ^ 40) word

abbrev pub walk_said : List (List ℕ) → Option Aspect
walk_said (address ∷ []) = option_map Walk (address_said address)
walk_said _ = None

abbrev pub memory_of : Option ℕ → Option ℕ → Option Aspect
memory_of (Some address) (Some len) = Some (Memory address len)
memory_of _ _ = None

abbrev pub memory_said : List (List ℕ) → Option Aspect
memory_said (address ∷ len ∷ []) = memory_of (address_said address) (len_said (2 ^ 24) len)
memory_said _ = None

-- by its word, with the words after it
unfoldable pub aspect_said : List ℕ → List (List ℕ) → Option Aspect
aspect_said word words =
    if bytes_eq word (codes "walk") then walk_said words
    else if bytes_eq word (codes "memory") then memory_said words
    else None

abbrev pub on_of : Option ℕ → Option ℕ → Option Only
on_of (Some address) (Some len) = Some (On address len)
on_of _ _ = None

abbrev pub on_said : List (List ℕ) → Option Only
on_said (address ∷ len ∷ []) = on_of (address_said address) (len_said (2 ^ 32) len)
on_said _ = None

abbrev pub some_said : List ℕ → List (List ℕ) → Option Only
some_said word words =
    if bytes_eq word (codes "at") then option_map At (addresses_said words)
    else if bytes_eq word (codes "on") then on_said words
    else None

unfoldable pub only_said : List (List ℕ) → Option Only
only_said [] = Some Each
only_said (word ∷ words) = some_said word words

-- ---- what follows the first word

unfoldable pub after_list : List (List ℕ) → Option Look
after_list (image ∷ []) = if is_name image then Some (ListImage image) else None
after_list _ = None

abbrev pub steps_of : Option RunAsked → Option ℕ → Option ℕ → Option Only → Option Look
steps_of (Some run) (Some from) (Some to) (Some only) = Some (Steps run from to only)
steps_of _ _ _ _ = None

unfoldable pub after_steps : List (List ℕ) → Option Look
after_steps (image ∷ script ∷ frames ∷ from ∷ to ∷ words) =
    steps_of (run_said image script frames) (step_said from) (step_said to) (only_said words)
after_steps _ = None

abbrev pub state_of : Option RunAsked → Option (List ℕ) → Option Look
state_of (Some run) (Some steps) = Some (Before run steps Whole)
state_of _ _ = None

unfoldable pub after_state : List (List ℕ) → Option Look
after_state (image ∷ script ∷ frames ∷ words) = state_of (run_said image script frames) (steps_said words)
after_state _ = None

abbrev pub before_of : Option RunAsked → Option ℕ → Option Aspect → Option Look
before_of (Some run) (Some n) (Some aspect) = Some (Before run (n ∷ []) aspect)
before_of _ _ _ = None

-- the word is `walk` or `memory`
unfoldable pub after_aspect : List ℕ → List (List ℕ) → Option Look
after_aspect word (image ∷ script ∷ frames ∷ n ∷ words) = before_of (run_said image script frames) (step_said n) (aspect_said word words)
after_aspect word _ = None

abbrev pub file_of : List ℕ → Option Aspect → Option Look
file_of state aspect = if is_name state then option_map (InFile state) aspect else None

unfoldable pub after_file : List (List ℕ) → Option Look
after_file (state ∷ []) = file_of state (Some Whole)
after_file (state ∷ word ∷ words) = file_of state (aspect_said word words)
after_file _ = None

-- the words after the program's name
unfoldable pub form_of : List (List ℕ) → Option Look
form_of [] = None
form_of (word ∷ words) =
    if bytes_eq word (codes "list") then after_list words
    else if bytes_eq word (codes "steps") then after_steps words
    else if bytes_eq word (codes "state") then after_state words
    else if bytes_eq word (codes "file") then after_file words
    else after_aspect word words
