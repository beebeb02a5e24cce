-- What a yes of the kernel gives over a sound environment.
use Rattle.std.specs.Prelude.{[]}
use Rattle.mt_term.specs.Trees.{Tree, Sort}
use Rattle.mt_term.specs.declared.universes.Sort.{Sort as AnySort}
use Rattle.mt_term.specs.Declarations.{Environment}
use Rattle.mt_calculus.specs.SoundEnvironment.{SoundEnvironment}
use Rattle.mt_calculus.specs.Typing.{Has, Strict}

-- a strict derivation that the closed type has a sort
abbrev pub IsTypeDerived : Environment → Tree → Type 0
IsTypeDerived E ty = SoundEnvironment E → (s : AnySort) × Strict E [] (Has ty (Sort s))

-- strict derivations that the closed type has a sort, and that the closed term has the type
abbrev pub IsTermDerived : Environment → Tree → Tree → Type 0
IsTermDerived E term ty =
    SoundEnvironment E → (s : AnySort) × Strict E [] (Has ty (Sort s)) × Strict E [] (Has term ty)
