mod Digits
mod Examples
mod LawfulBounds
mod LawfulPlans
mod PlanSteps
