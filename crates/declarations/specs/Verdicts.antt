-- Whether a lone text is accepted, and known verdicts.
use Rattle.std.specs.Prelude.{◌≡◌, ℕ, List, [], ◌∷◌, map, Some, None, Ok, Err, codes, Option, Result}
use Rattle.lexemes.specs.Lines.{located}
use Rattle.grammar.specs.declared.unit.UnitFault.{UnitFault}
use Rattle.grammar.specs.declared.unit.UnitFault.TheVariants.{Grammar, Declaration}
use Rattle.grammar.specs.Units.{read, outcome}
use Rattle.declarations.specs.Declarations.{fault_in}

abbrev pub ruled : List ℕ → Option ℕ → Result (Prim.Unit {0}) UnitFault
ruled text None = Ok tt
ruled text (Some off) = Err (Declaration (located text off))

abbrev pub both : Result (Prim.Unit {0}) UnitFault → Result (Prim.Unit {0}) UnitFault → Result (Prim.Unit {0}) UnitFault
both (Ok done) r = r
both (Err f) r = Err f

-- 11, it has over 4,096 bytes; 12, the grammar does not admit it; 13, a name shows a declaration fault
abbrev pub unit_verdict : List ℕ → Result (Prim.Unit {0}) UnitFault
unit_verdict text = both (outcome (read text)) (ruled text (fault_in text))

-- a text and its verdict
pub record Known : Type 0 where
  pub text : List ℕ
  pub verdict : Result (Prim.Unit {0}) UnitFault

abbrev fine : List ℕ → Known
fine text = record { text = text; verdict = Ok tt }

abbrev undeclared : ℕ → ℕ → List ℕ → Known
undeclared offset line text = record { text = text; verdict = Err (Declaration (record { offset = offset; line = line })) }

abbrev ungrammatical : ℕ → ℕ → List ℕ → Known
ungrammatical offset line text = record { text = text; verdict = Err (Grammar (record { offset = offset; line = line })) }

abbrev pub known : List Known
known =
    undeclared 0 1 (codes "p=q;")
    ∷ undeclared 11 1 (codes "var p; fun p 2;")
    ∷ undeclared 11 2 (codes "var p;\np = q; var q;")
    ∷ undeclared 11 1 (codes "var p; p = p.r;")
    ∷ undeclared 9 1 (codes "fun f 2; f.0 = f;")
    ∷ undeclared 15 1 (codes "fun f 2; f.2 = f.3;")
    ∷ undeclared 7 1 (codes "var p; p();")
    ∷ undeclared 9 1 (codes "fun f 2; f(f);")
    ∷ undeclared 9 1 (codes "var p; (*q)(p.1);")
    ∷ ungrammatical 5 2 (codes "q=p;\n;")
    ∷ fine (codes "fun f 2; extern var g; f.r = f(f.1, g);")
    ∷ fine []
    ∷ []

-- the table's verdicts are the rules'
pub record KnownVerdicts : Type 0 where
  pub all : map (λ (k : Known). unit_verdict k.text) known ≡ map (λ (k : Known). k.verdict) known
