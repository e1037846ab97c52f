-- What a call of the program may have taken and written for what its words ask for.
use Rattle.std.specs.Prelude.{◌≡◌, ◌⊎◌, ◌≤◌, ℕ, List, Option, string_bytes}
use Rattle.std.specs.Io.KnownBytes.{Appends}
use Rattle.spv_arguments.specs.declared.request.Request.{Request}
use Rattle.spv_arguments.specs.declared.request.Request.TheVariants as request
use Rattle.spv_loop.specs.Sessions.{Settings}
use Rattle.spv_loop.specs.declared.status.Status.{Status}
use Rattle.spv_loop.specs.declared.status.Status.TheVariants.{Done}
use Rattle.spv_app.specs.Checking.{Checked}
use Rattle.spv_app.specs.Debug.{Debugged, SaysLine}
use Rattle.spv_app.specs.Making.{Made}
use Rattle.spv_app.specs.Outside.{Outside}
use Rattle.spv_app.specs.Texting.{Texted}

-- the text is due, which tells how to call the program
abbrev pub Helped : (text : List ℕ) → (held_before held_after : Option (List ℕ)) → Status → Type 0
Helped text held_before held_after status = (put : List ℕ) × Appends held_before held_after put × SaysLine Done text status put

-- by the settings of the kit, what the outside tells before and after the call, whether the files were left as they were, and whether the input was
abbrev pub Served : Settings → Request → (before after : Outside) → (unasked unread : Type 0) → Status → Type 0
Served settings (request.Debug binary setup) before after unasked unread status = Debugged settings (record { binary = binary.now; setup = setup.now }) before after unread status
Served settings (request.Check binary) before after unasked unread status =
    unread × (after.streams.steps ≡ before.streams.steps) × Checked binary.now before.files after.files before.streams.held after.streams.held status
Served settings (request.Make number) before after unasked unread status =
    unasked × unread × Made number before.streams.held after.streams.held before.streams.steps after.streams.steps status
Served settings (request.Text binary) before after unasked unread status =
    unread × (after.streams.steps ≡ before.streams.steps) × Texted binary.now before.files after.files before.streams.held after.streams.held status
Served settings (request.Help text) before after unasked unread status =
    unasked × unread × (after.streams.steps ≡ before.streams.steps) × Helped (string_bytes text) before.streams.held after.streams.held status

-- inputs can be made for the number
abbrev pub CanServe : Request → Type 0
CanServe (request.Make number) = (1 ≤ number) × (number ≤ 64)
CanServe other = Unit {0}

-- the names of the files that are read for it
abbrev pub Reads : Request → List ℕ → Type 0
Reads (request.Debug binary setup) name = (name ≡ binary.now) ⊎ (name ≡ setup.now)
Reads (request.Check binary) name = name ≡ binary.now
Reads (request.Make number) name = ⊥
Reads (request.Text binary) name = name ≡ binary.now
Reads (request.Help text) name = ⊥
