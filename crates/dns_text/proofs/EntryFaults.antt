-- No fault of an entry is a want of memory.
use Rattle.std.proofs.Common.{◌≢◌, inl, inr, ℕ, zero, suc, List, [], ◌∷◌, subst}
use Rattle.text_spec.specs.declared.errors.ScanError.{ScanError}
use Rattle.text_spec.specs.declared.errors.ScanError.TheVariants.{NoMemory}
use Rattle.text_spec.specs.Pieces.{Piece, Blank, LineEnd, Comment, Opening, Closing, Bare, Quoted, IsTailRow, IsPieceRow, FaultAt, FaultAfter, FaultInQuotes, HasFault}

module _ (within : ℕ → Type 0) (ended : Type 0) (rest : List ℕ)
    (not_within : (depth : ℕ) → within depth → ⊥) (not_ended : ended → ⊥) where
  tail_row : (pieces : List Piece) → IsTailRow ended rest pieces → ⊥
  tail_row [] h = not_ended h
  tail_row (Blank c ∷ pieces) h = tail_row pieces h.1
  tail_row (LineEnd ∷ pieces) h = tail_row pieces h
  tail_row (Comment text ∷ pieces) h = tail_row pieces h.1
  tail_row (Opening ∷ pieces) h = h
  tail_row (Closing ∷ pieces) h = h
  tail_row (Bare symbol ∷ pieces) h = h
  tail_row (Quoted symbols ∷ pieces) h = h

  row : (depth : ℕ) (pieces : List Piece) → IsPieceRow within ended rest depth pieces → ⊥
  row depth [] h = not_within depth h
  row depth (Blank c ∷ pieces) h = row depth pieces h.1
  row zero (LineEnd ∷ pieces) h = tail_row pieces h
  row (suc depth) (LineEnd ∷ pieces) h = row (suc depth) pieces h
  row depth (Comment text ∷ pieces) h = row depth pieces h.1
  row depth (Opening ∷ pieces) h = row (suc depth) pieces h
  row zero (Closing ∷ pieces) h = h
  row (suc depth) (Closing ∷ pieces) h = row depth pieces h
  row depth (Bare symbol ∷ pieces) h = row depth pieces h.1
  row depth (Quoted symbols ∷ pieces) h = row depth pieces h.1

not_within : (rest : List ℕ) (depth : ℕ) → FaultAt rest NoMemory depth → ⊥
not_within [] depth h = h
not_within (c ∷ rest) depth h = h

not_after : (rest : List ℕ) → FaultAfter rest NoMemory → ⊥
not_after [] h = h
not_after (c ∷ rest) h = h

not_in_quotes : (rest : List ℕ) → FaultInQuotes rest NoMemory → ⊥
not_in_quotes [] h = h
not_in_quotes (c ∷ rest) h = h

no_memory : (text : List ℕ) → HasFault 0 text NoMemory → ⊥
no_memory text h = elim h.3 [
  | inl found ↦ row (FaultAt h.1 NoMemory) (FaultAfter h.1 NoMemory) h.1 (not_within h.1)
      (not_after h.1) 0 h.0 found
  | inr quoted ↦ not_in_quotes quoted.1 quoted.4
]

pub not_memory : (text : List ℕ) (fault : ScanError) → HasFault 0 text fault → fault ≢ NoMemory
not_memory text fault h = λ is. no_memory text (subst (HasFault 0 text) is h)
