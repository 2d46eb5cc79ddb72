-- Sources that are servers or files: what a source tells is what its part tells.
use Rattle.std.specs.Prelude.{ℕ, ⊤}
use Rattle.log_transfer.specs.Connections.{Connection}
use Rattle.log_transfer.specs.declared.source_connector.ServerOrFile.{ServerOrFile}
use Rattle.log_transfer.specs.declared.source_connector.ServerOrFile.TheVariants.{Tcp, File}

-- a number, as how many calls failed
abbrev pub number_of : {S F : Type 0} → (S → ℕ) → (F → ℕ) → ServerOrFile S F → ℕ
number_of server file (Tcp s) = server s
number_of server file (File f) = file f

-- what it may give
abbrev pub gives_of : {S F : Type 0} → (S → ℕ → ℕ → ℕ → Connection → Type 0) → (F → ℕ → ℕ → ℕ → Connection → Type 0) → ServerOrFile S F → ℕ → ℕ → ℕ → Connection → Type 0
gives_of server file (Tcp s) = server s
gives_of server file (File f) = file f

abbrev pub left_of : {S F : Type 0} → (S → Connection → Type 0) → (F → Connection → Type 0) → ServerOrFile S F → Connection → Type 0
left_of server file (Tcp s) = server s
left_of server file (File f) = file f

-- what a connection was asked for; a source stays a server, or a file
abbrev pub asked_of : {S F : Type 0} → (S → S → ℕ → ℕ → Type 0) → (F → F → ℕ → ℕ → Type 0) → ServerOrFile S F → ServerOrFile S F → ℕ → ℕ → Type 0
asked_of server file (Tcp s) (Tcp t) = server s t
asked_of server file (File f) (File g) = file f g
asked_of server file (Tcp s) (File g) = λ first most. ⊥
asked_of server file (File f) (Tcp t) = λ first most. ⊥

-- something may still be given
pub some_of : {S F : Type 0} (server : S → Connection → Type 0) (file : F → Connection → Type 0) → ((s : S) → (c : Connection) × server s c) → ((f : F) → (c : Connection) × file f c)
    → (x : ServerOrFile S F) → (c : Connection) × left_of server file x c
some_of server file of_server of_file (Tcp s) = of_server s
some_of server file of_server of_file (File f) = of_file f

-- what calls lead to
abbrev pub reaches_of : {S F : Type 0} → (S → S → Type 0) → (F → F → Type 0) → ServerOrFile S F → ServerOrFile S F → Type 0
reaches_of server file (Tcp s) (Tcp t) = server s t
reaches_of server file (File f) (File g) = file f g
reaches_of server file (Tcp s) (File g) = ⊥
reaches_of server file (File f) (Tcp t) = ⊥

pub stays_of : {S F : Type 0} (server : S → S → Type 0) (file : F → F → Type 0) → ((s : S) → server s s) → ((f : F) → file f f) → (x : ServerOrFile S F) → reaches_of server file x x
stays_of server file of_server of_file (Tcp s) = of_server s
stays_of server file of_server of_file (File f) = of_file f
