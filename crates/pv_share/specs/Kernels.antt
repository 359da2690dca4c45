-- Several kernels by the names of their files: each an image, and the script under which it is run.
use Rattle.std.specs.Prelude.{◌≡◌, ◌⊎◌, ℕ, List, [], ◌∷◌, length, Option, Ok}
use Rattle.std.specs.List.{AllZip}
use Rattle.pv_io.specs.Files.{FileMap, Holds}
use Rattle.guest_sched.specs.declared.kernel.Kernel.{Kernel}
use Rattle.guest_sched.specs.Texts.{schedule_of}
use Rattle.pv_words.specs.Words.{KernelNames}
use Rattle.pv_build.specs.Images.{HasImage}
use Rattle.pv_build.specs.Scripts.{HasScript, FindsRun, NoRun}
use Rattle.guest_sched.specs.declared.schedule.Slice.{Slice}

-- the names hold the kernel
pub record HasKernel (files : Option FileMap) (names : KernelNames) (kernel : Kernel) : Type 0 where
  pub image : HasImage files names.image kernel.image
  pub script : HasScript files names.script kernel.script.list

-- so each of them
abbrev pub HasKernels : Option FileMap → List KernelNames → List Kernel → Type 0
HasKernels files names kernels = AllZip (HasKernel files) names kernels

-- Each name that is reached is held: a kernel's are reached where those before it hold kernels.
abbrev pub FindsKernels : Option FileMap → List KernelNames → Type 0
FindsKernels files [] = Unit {0}
FindsKernels files (names ∷ more) =
    FindsRun files names.image names.script × ((kernel : Kernel) → HasKernel files names kernel → FindsKernels files more)

-- the line of the first kernel that there is not
abbrev pub NoKernel : Option FileMap → List KernelNames → List ℕ → Type 0
NoKernel files [] line = ⊥
NoKernel files (names ∷ more) line =
    NoRun files names.image names.script line ⊎ ((kernel : Kernel) × HasKernel files names kernel × NoKernel files more line)

-- with their schedule, which is loaded before them and read after them
pub record IsShared (files : Option FileMap) (schedule : List ℕ) (names : List KernelNames) (kernels : List Kernel)
    (slices : List Slice) : Type 0 where
  pub text : List ℕ
  pub holds : Holds files schedule text
  pub has : HasKernels files names kernels
  pub says : schedule_of (length kernels) text ≡ Ok slices
