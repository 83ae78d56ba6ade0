use Rattle.table.proofs.text.+digits.Given as goal

-- proposed from what the function passes where it calls itself
abbrev pub decreases-digits : goal.decreases-digits
decreases-digits l = l.n
