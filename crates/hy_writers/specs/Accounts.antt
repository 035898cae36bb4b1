-- What of a customer is read and changed without the other columns.
use Rattle.std.specs.Prelude.{◌≡◌}
use Rattle.hy_rows.specs.RowParts.{account_of, with_account}
use Rattle.hy_rows.specs.declared.customer.Customer.{Customer}
use Rattle.hy_rows.specs.declared.customer.CustomerAccount.{CustomerAccount}

-- it is that of a row of which something holds
abbrev pub IsAccountOf : CustomerAccount → (Customer → Type 0) → Type 0
IsAccountOf account Holds = (row : Customer) × (account_of row ≡ account) × Holds row

-- a row with this one has the other one where it was changed so
abbrev pub ChangesAccount : CustomerAccount → CustomerAccount → (Customer → Customer) → Type 0
ChangesAccount before after change = (row : Customer) → account_of row ≡ before → with_account row after ≡ change row
